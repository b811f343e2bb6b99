-- A test of the items of a mapped list, as a test of the list itself.
use Rattle.std.proofs.Common.{◌≡◌, ◌+◌, ap, cond, Bool, true, false, ◌||◌, not, List, [], ◌∷◌, map, filter, Some, option_map, refl}
use Rattle.std.specs.Prelude.{find, position, is_some}
use Rattle.std.specs.List.{list_any, position_or_len}
use Rattle.std.proofs.lemmas.List.{length-map}

module _ {A B : Type 0} (f : A → B) (test : B → Bool) where
  pub list_any-map : (xs : List A) → list_any test (map f xs) ≡ list_any (λ x. test (f x)) xs
  list_any-map [] = refl
  list_any-map (x ∷ xs) = ap (λ b. test (f x) || b) (list_any-map xs)

  pub find-map : (xs : List A) → find test (map f xs) ≡ option_map f (find (λ x. test (f x)) xs)
  find-map [] = refl
  find-map (x ∷ xs) =
      elim (test (f x)) as (λ b. cond b (Some (f x)) (find test (map f xs)) ≡ option_map f (cond b (Some x) (find (λ y. test (f y)) xs))) [
        | true ↦ refl
        | false ↦ find-map xs
      ]

  pub filter-map : (xs : List A) → filter test (map f xs) ≡ map f (filter (λ x. test (f x)) xs)
  filter-map [] = refl
  filter-map (x ∷ xs) =
      elim (test (f x)) as (λ b. cond b (f x ∷ filter test (map f xs)) (filter test (map f xs)) ≡ map f (cond b (x ∷ filter (λ y. test (f y)) xs) (filter (λ y. test (f y)) xs))) [
        | true ↦ ap (λ (l : List B). f x ∷ l) (filter-map xs)
        | false ↦ filter-map xs
      ]

  pub position_or_len-map : (xs : List A) → position_or_len test (map f xs) ≡ position_or_len (λ x. test (f x)) xs
  position_or_len-map [] = refl
  position_or_len-map (x ∷ xs) = ap (λ n. cond (not (test (f x))) (1 + n) 0) (position_or_len-map xs)

  pub position-map : (xs : List A) → position test (map f xs) ≡ position (λ x. test (f x)) xs
  position-map xs = rw (position_or_len-map xs, length-map xs f) refl

  -- an item is found exactly if one passes
  pub is_some-find : (xs : List B) → is_some (find test xs) ≡ list_any test xs
  is_some-find [] = refl
  is_some-find (x ∷ xs) =
      elim (test x) as (λ b. is_some (cond b (Some x) (find test xs)) ≡ (b || list_any test xs)) [
        | true ↦ refl
        | false ↦ is_some-find xs
      ]
