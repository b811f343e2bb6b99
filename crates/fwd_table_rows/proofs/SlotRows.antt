-- The rows of slots, slot by slot.
use Rattle.std.proofs.Common.{◌≡◌, ℕ, zero, suc, ◌+◌, ◌≤◌, List, [], ◌∷◌, ◌++◌, length, get_or, take, drop, Option, Some, None, refl, sym, ap, ◌∙◌, append_assoc, add-one}
use Rattle.std.specs.Prelude.{option_map, option_to_list}
use Rattle.std.proofs.lemmas.List.{append-nil, take_all, take-append-drop}
use Rattle.std.proofs.lemmas.List.Concat.{flat_map-append}
use Rattle.fwd_table_rows.specs.declared.row.Row.{Row}
use Rattle.fwd_table_rows.specs.Rows.{rows_at}

-- ---- one more slot

next_place : (places : List (Option Row)) (n : ℕ) → rows_at (take (suc n) places) ≡ rows_at (take n places) ++ option_to_list (get_or places n None)
next_place [] zero = refl
next_place [] (suc n) = refl
next_place (at ∷ places) zero = append-nil (option_to_list at)
next_place (at ∷ places) (suc n) =
    ap (λ (rows : List Row). option_to_list at ++ rows) (next_place places n) ∙ sym (append_assoc (option_to_list at) (rows_at (take n places)) (option_to_list (get_or places n None)))

pub place_more : (places : List (Option Row)) (n : ℕ) → rows_at (take (n + 1) places) ≡ rows_at (take n places) ++ option_to_list (get_or places n None)
place_more places n = rw add-one (next_place places n)

-- all slots
pub all_places : (places : List (Option Row)) (n : ℕ) → length places ≤ n → rows_at (take n places) ≡ rows_at places
all_places places n all = ap rows_at (take_all n places all)

-- the slots up to an index, and those after it
pub places_part : (places : List (Option Row)) (n : ℕ) → rows_at places ≡ rows_at (take n places) ++ rows_at (drop n places)
places_part places n = ap rows_at (sym (take-append-drop n places)) ∙ flat_map-append option_to_list (take n places) (drop n places)

-- ---- by the view of a slot

-- the slot has a row, with this view
pub record StandsAs (T : Type 0) (see : Row → T) (places : List (Option Row)) (n : ℕ) (seen : T) : Type 0 where
  pub row : Row
  pub there : get_or places n None ≡ Some row
  pub is : seen ≡ see row
  pub more : rows_at (take (n + 1) places) ≡ rows_at (take n places) ++ row ∷ []

module _ {T : Type 0} (see : Row → T) (places : List (Option Row)) (n : ℕ) where
  -- the slot is empty
  pub none_seen : None ≡ option_map see (get_or places n None) → rows_at (take (n + 1) places) ≡ rows_at (take n places)
  none_seen is = by (get_or places n None) refl is
    where
      by : (at : Option Row) → get_or places n None ≡ at → None ≡ option_map see at → rows_at (take (n + 1) places) ≡ rows_at (take n places)
      by None there same = place_more places n ∙ ap (λ (o : Option Row). rows_at (take n places) ++ option_to_list o) there ∙ append-nil (rows_at (take n places))
      by (Some row) there same = absurd (cc)

  -- the slot has a row
  pub one_seen : (seen : T) → Some seen ≡ option_map see (get_or places n None) → StandsAs T see places n seen
  one_seen seen is = by (get_or places n None) refl is
    where
      by : (at : Option Row) → get_or places n None ≡ at → Some seen ≡ option_map see at → StandsAs T see places n seen
      by None there same = absurd (cc)
      by (Some row) there same = record {
        row = row;
        there = there;
        is = cc;
        more = place_more places n ∙ ap (λ (o : Option Row). rows_at (take n places) ++ option_to_list o) there;
      }
