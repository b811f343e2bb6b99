-- Fields of groups, in order.
use Rattle.std.proofs.Common.{◌≡◌, ◌∙◌, sym, ap, cond, Bool, true, false, ℕ, ◌+◌, ◌<◌, List, [], ◌∷◌, ◌++◌, length, take, get_or, map, filter, refl}
use Rattle.std.proofs.lemmas.List.{take_more, map-append}
use Rattle.fwd_base.specs.Pattern.{Captured, captured}
use Rattle.fwd_base.specs.declared.search.Capture.{Capture}
use Rattle.fwd_value.specs.Val.{Val}
use Rattle.fwd_json.specs.declared.floats.Floats.{Floats}
use Rattle.fwd_parser.specs.Field.{fields_of, field_of, is_kept_group}
use Rattle.fwd_parser.specs.declared.parser.FieldType.{FieldType}

module _ (floats : Floats) (types : List FieldType) (skip : Bool) where
  joined : (gs hs : List Captured) → fields_of floats types skip (gs ++ hs) ≡ fields_of floats types skip gs ++ fields_of floats types skip hs
  joined [] hs = refl
  joined (g ∷ gs) hs =
      elim (is_kept_group skip g) as (λ b. map (field_of floats types) (cond b (g ∷ filter (is_kept_group skip) (gs ++ hs)) (filter (is_kept_group skip) (gs ++ hs))) ≡ map (field_of floats types) (cond b (g ∷ filter (is_kept_group skip) gs) (filter (is_kept_group skip) gs)) ++ fields_of floats types skip hs) [
        | true ↦ ap (λ (fs : List (Val × Val)). field_of floats types g ∷ fs) (joined gs hs)
        | false ↦ joined gs hs
      ]

  -- the fields of the first groups, and the field of the next
  pub fields_of_more : (gs : List Capture) (i : ℕ) (g : Capture) → i < length gs → g ≡ get_or gs i g
      → fields_of floats types skip (map captured (take (i + 1) gs)) ≡ fields_of floats types skip (map captured (take i gs)) ++ fields_of floats types skip (captured g ∷ [])
  fields_of_more gs i g within here =
      ap (λ ks. fields_of floats types skip (map captured ks)) (take_more gs i g within)
      ∙ ap (fields_of floats types skip) (map-append captured (take i gs) (get_or gs i g ∷ []))
      ∙ joined (map captured (take i gs)) (captured (get_or gs i g) ∷ [])
      ∙ ap (λ k. fields_of floats types skip (map captured (take i gs)) ++ fields_of floats types skip (captured k ∷ [])) (sym here)
