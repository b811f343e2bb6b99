-- The index of the first pair that passes a test.
use Rattle.std.proofs.Common.{◌≡◌, ℕ, zero, suc, ◌<◌, ◌≤◌, ◌∙◌, cond, ltb, Bool, true, false, [], ◌∷◌, length, get_or, None, Some, refl, arith}
use Rattle.std.specs.Prelude.{find, position, slice_get}
use Rattle.std.specs.List.{position_or_len}
use Rattle.std.proofs.lemmas.Bool.Decides.{nat_tests}
use Rattle.std.proofs.lemmas.List.Folds.{find_at}
use Rattle.std.proofs.lemmas.List.Quantifiers.{position-Some}
use Rattle.std.proofs.lemmas.Option.{slice_get_past}
use Rattle.fwd_value.specs.Val.{Val}
use Rattle.fwd_value.specs.Keys.{Record}

module _ (test : Val × Val → Bool) where
  none_found_by : (xs : Record) (b : Bool) → ltb (position_or_len test xs) (length xs) ≡ b → cond b (Some (position_or_len test xs)) None ≡ None → find test xs ≡ None
  none_found_by xs true e none = cc
  none_found_by xs false e none =
      let past : length xs ≤ position_or_len test xs = grind (arith, nat_tests) in
      find_at test xs ∙ slice_get_past xs (position_or_len test xs) past

  -- if there is no index, there is no pair
  pub none_found : (xs : Record) → position test xs ≡ None → find test xs ≡ None
  none_found xs none = none_found_by xs _ refl none

  found_at : (xs : Record) (i : ℕ) (p d : Val × Val) → slice_get xs i ≡ Some p → test (get_or xs i d) ≡ true → ((k : ℕ) → k < i → test (get_or xs k d) ≡ false) → find test xs ≡ Some p
  found_at [] i p d there here before = cc
  found_at (x ∷ xs) zero p d there here before = rw here there
  found_at (x ∷ xs) (suc i) p d there here before =
      let none : test x ≡ false = before 0 (omega arith) in
      rw none (found_at xs i p d there here (λ k lt. before (suc k) (omega arith)))

  -- the pair at that index is the first that passes
  pub found : (xs : Record) (i : ℕ) (p : Val × Val) → position test xs ≡ Some i → slice_get xs i ≡ Some p → find test xs ≡ Some p
  found xs i p e there = let h = position-Some test xs i p e in found_at xs i p p there h.1 h.2
