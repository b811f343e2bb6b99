-- New links of two runs of calls, one after the other.
use Rattle.std.proofs.Common.{◌≡◌, ℕ, List, [], ◌∷◌, ◌++◌, refl}
use Rattle.fwd_outside.specs.Loop.{LoopEntry}
use Rattle.fwd_outside.specs.NewLinks.{greatest_by, greatest_after, AreNewLinks}

pub new_append : (greatest : ℕ) (xs ys : List LoopEntry) → AreNewLinks greatest xs
    → AreNewLinks (greatest_after greatest xs) ys → AreNewLinks greatest (xs ++ ys)
new_append greatest [] ys first second = second
new_append greatest (e ∷ xs) ys first second =
    (first.0, new_append (greatest_by greatest e.call e.answer) xs ys first.1 second)

pub new_first : (greatest : ℕ) (xs ys : List LoopEntry) → AreNewLinks greatest (xs ++ ys) → AreNewLinks greatest xs
new_first greatest [] ys new = tt
new_first greatest (e ∷ xs) ys new = (new.0, new_first (greatest_by greatest e.call e.answer) xs ys new.1)

pub greatest_append : (greatest : ℕ) (xs ys : List LoopEntry)
    → greatest_after greatest (xs ++ ys) ≡ greatest_after (greatest_after greatest xs) ys
greatest_append greatest [] ys = refl
greatest_append greatest (e ∷ xs) ys = greatest_append (greatest_by greatest e.call e.answer) xs ys
