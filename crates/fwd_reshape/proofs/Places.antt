-- What an edit at the index of the first pair that passes leaves.
use Rattle.std.proofs.Common.{◌≡◌, ℕ, zero, suc, ◌<◌, ◌∙◌, sym, ap, cond, Bool, true, false, List, [], ◌∷◌, get_or, set, Option, None, Some, refl, arith}
use Rattle.std.specs.Prelude.{find, position, slice_get, remove, insert}
use Rattle.std.proofs.lemmas.List.Quantifiers.{position-Some}
use Rattle.fwd_value.specs.Val.{Val}
use Rattle.fwd_value.specs.Keys.{Record}
use Rattle.fwd_reshape.specs.Rules.{first_changed}
use Rattle.fwd_reshape.specs.Moves.{without_first}

module _ (test : Val × Val → Bool) where
  removed_at : (xs : Record) (i : ℕ) (p d : Val × Val) → slice_get xs i ≡ Some p → test (get_or xs i d) ≡ true → ((k : ℕ) → k < i → test (get_or xs k d) ≡ false) → remove xs i ≡ without_first test xs
  removed_at [] i p d there here before = cc
  removed_at (x ∷ xs) zero p d there here before = rw here refl
  removed_at (x ∷ xs) (suc i) p d there here before =
      let none : test x ≡ false = before 0 (omega arith) in
      rw none (ap (λ (l : Record). x ∷ l) (removed_at xs i p d there here (λ k lt. before (suc k) (omega arith))))

  -- the list without the first that passes
  pub without_first-at : (xs : Record) (i : ℕ) (p : Val × Val) → position test xs ≡ Some i → slice_get xs i ≡ Some p → remove xs i ≡ without_first test xs
  without_first-at xs i p e there = let h = position-Some test xs i p e in removed_at xs i p p there h.1 h.2

  module _ (change : Val × Val → Val × Val) where
    changed_at : (xs : Record) (i : ℕ) (p d : Val × Val) → slice_get xs i ≡ Some p → test (get_or xs i d) ≡ true → ((k : ℕ) → k < i → test (get_or xs k d) ≡ false) → set xs i (change p) ≡ first_changed test change xs
    changed_at [] i p d there here before = cc
    changed_at (x ∷ xs) zero p d there here before =
        let same : x ≡ p = cc in
        rw here (ap (λ (q : Val × Val). change q ∷ xs) (sym same))
    changed_at (x ∷ xs) (suc i) p d there here before =
        let none : test x ≡ false = before 0 (omega arith) in
        rw none (ap (λ (l : Record). x ∷ l) (changed_at xs i p d there here (λ k lt. before (suc k) (omega arith))))

    -- a write at the index of the first that passes
    pub first_changed-at : (xs : Record) (i : ℕ) (p : Val × Val) → position test xs ≡ Some i → slice_get xs i ≡ Some p → set xs i (change p) ≡ first_changed test change xs
    first_changed-at xs i p e there = let h = position-Some test xs i p e in changed_at xs i p p there h.1 h.2

    first_changed-none_by : (x : Val × Val) (xs : Record) (b : Bool) → test x ≡ b → cond b (Some x) (find test xs) ≡ None → (find test xs ≡ None → first_changed test change xs ≡ xs) → first_changed test change (x ∷ xs) ≡ x ∷ xs
    first_changed-none_by x xs true e none again = cc
    first_changed-none_by x xs false e none again = rw e (ap (λ (l : Record). x ∷ l) (again none))

    -- if none passes, nothing is changed
    pub first_changed-none : (xs : Record) → find test xs ≡ None → first_changed test change xs ≡ xs
    first_changed-none [] none = refl
    first_changed-none (x ∷ xs) none = first_changed-none_by x xs (test x) refl none (first_changed-none xs)

insert-remove : (xs : Record) (i : ℕ) (p : Val × Val) → slice_get xs i ≡ Some p → insert (remove xs i) i p ≡ xs
insert-remove [] i p there = cc
insert-remove (x ∷ []) zero p there = let same : x ≡ p = cc in ap (λ (q : Val × Val). q ∷ []) (sym same)
insert-remove (x ∷ (y ∷ xs)) zero p there = let same : x ≡ p = cc in ap (λ (q : Val × Val). q ∷ (y ∷ xs)) (sym same)
insert-remove (x ∷ xs) (suc i) p there = ap (λ (l : Record). x ∷ l) (insert-remove xs i p there)

-- a removed pair is put back
pub insert-gone : (rest xs : Record) (i : ℕ) (p : Val × Val) → rest ≡ remove xs i → slice_get xs i ≡ Some p → insert rest i p ≡ xs
insert-gone rest xs i p gone there = ap (λ (l : Record). insert l i p) gone ∙ insert-remove xs i p there
