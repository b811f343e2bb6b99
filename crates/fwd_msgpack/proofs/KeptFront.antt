-- The old bytes are still there, at the front.
use Rattle.std.proofs.Common.{◌≡◌, ℕ, zero, suc, ◌≤◌, List, [], ◌∷◌, ◌++◌, length, take, refl, sym, ap, ◌∙◌, arith}
use Rattle.std.proofs.lemmas.List.{take_at, take_all, length-append}
use Rattle.fwd_msgpack.specs.KeptFront.{KeepsFront}

pub keeps_same : (old new : List ℕ) → new ≡ old → KeepsFront old new
keeps_same old new e = ap (take (length old)) e ∙ take_all (length old) old (omega arith)

pub keeps_added : (old new more : List ℕ) → new ≡ old ++ more → KeepsFront old new
keeps_added old new more e = ap (take (length old)) e ∙ take_at old more (length old) refl

take_front : (m n : ℕ) (xs : List ℕ) → m ≤ n → take m (take n xs) ≡ take m xs
take_front zero n xs le = refl
take_front (suc m) zero xs le = absurd (omega arith)
take_front (suc m) (suc n) [] le = refl
take_front (suc m) (suc n) (x ∷ xs) le = ap (λ (t : List ℕ). x ∷ t) (take_front m n xs (omega arith))

-- one writer after another
pub keeps_on : (old between new : List ℕ) → KeepsFront old between → KeepsFront between new → length old ≤ length between → KeepsFront old new
keeps_on old between new h k le = sym (take_front (length old) (length between) new le) ∙ ap (take (length old)) k ∙ h

pub keeps_behind : (old between new more : List ℕ) → between ≡ old ++ more → KeepsFront between new → KeepsFront old new
keeps_behind old between new more e k = keeps_on old between new (keeps_added old between more e) k (omega (arith, ap length e, length-append old more))
