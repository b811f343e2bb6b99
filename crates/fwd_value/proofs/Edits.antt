-- Edits of values or pairs, as edits of the list that contracts see.
use Rattle.std.proofs.Common.{◌≡◌, ℕ, zero, suc, ◌<◌, List, [], ◌∷◌, map, length, set, get_or, remove, insert, option_map, refl, ap, ◌∙◌}
use Rattle.std.proofs.lemmas.List.{map-set}
use Rattle.std.proofs.lemmas.Option.{slice_get_read, slice_get-map}
use Rattle.fwd_value.specs.View.{val_of, pair_of}
use Rattle.fwd_value.specs.Edits.{ReplacesValue, ReplacesKey}
use Rattle.fwd_value.specs.declared.value.Value.{Value}

module _ {A B : Type 0} (f : A → B) where
  pub map-remove : (xs : List A) (i : ℕ) → map f (remove xs i) ≡ remove (map f xs) i
  map-remove [] zero = refl
  map-remove [] (suc i) = refl
  map-remove (x ∷ xs) zero = refl
  map-remove (x ∷ xs) (suc i) = ap (λ (t : List B). f x ∷ t) (map-remove xs i)

  pub map-insert : (xs : List A) (i : ℕ) (y : A) → map f (insert xs i y) ≡ insert (map f xs) i (f y)
  map-insert [] zero y = refl
  map-insert [] (suc i) y = refl
  map-insert (x ∷ xs) zero y = refl
  map-insert (x ∷ xs) (suc i) y = ap (λ (t : List B). f x ∷ t) (map-insert xs i y)

-- replacing a part of a pair
pub replaces_value : (xs : List (Value × Value)) (i : ℕ) (p : Value × Value) (v : Value) → p ≡ get_or xs i p → i < length xs → ReplacesValue (map pair_of xs) i (val_of v) (map pair_of (set xs i (p.0, v)))
replaces_value xs i p v e lt = record {
  key = val_of p.0;
  former = val_of p.1;
  there = slice_get-map pair_of xs i ∙ ap (option_map pair_of) (slice_get_read xs (length xs) i p refl lt e);
  edited = map-set pair_of xs i (p.0, v);
}

pub replaces_key : (xs : List (Value × Value)) (i : ℕ) (p : Value × Value) (v : Value) → p ≡ get_or xs i p → i < length xs → ReplacesKey (map pair_of xs) i (val_of v) (map pair_of (set xs i (v, p.1)))
replaces_key xs i p v e lt = record {
  former = val_of p.0;
  value = val_of p.1;
  there = slice_get-map pair_of xs i ∙ ap (option_map pair_of) (slice_get_read xs (length xs) i p refl lt e);
  edited = map-set pair_of xs i (v, p.1);
}
