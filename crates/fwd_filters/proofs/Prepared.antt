-- Filters prepared one after another.
use Rattle.std.proofs.Common.{◌≡◌, ◌+◌, ◌<◌, ℕ, ◌∙◌, sym, ap, subst, Option, List, ◌∷◌, length, map, drop, get_or}
use Rattle.std.specs.Prelude.{option_and_then}
use Rattle.std.proofs.lemmas.List.{length-map}
use Rattle.std.proofs.Math.ListN.{get_or-map}
use Rattle.std.proofs.Math.Seq.{drop-cons}
use Rattle.std.proofs.Math.Numerals.{add-one}
use Rattle.fwd_event.specs.declared.event.Event.{Event}
use Rattle.fwd_filters.specs.declared.filter_step.FilterKind.{FilterKind}
use Rattle.fwd_filters.specs.Step.{step_of, through}

module _ {A B : Type 0} (f : A → B) where
  -- if two lists have the same image, the image of the one's element at an index begins the rest of the
  -- other's image from there
  pub leads : (xs ys : List A) (i : ℕ) (x : A) → map f xs ≡ map f ys → i < length ys → x ≡ get_or xs i x → drop i (map f ys) ≡ f x ∷ drop (i + 1) (map f ys)
  leads xs ys i x same within here =
      let at : get_or (map f ys) i (f x) ≡ f x = ap (λ l. get_or l i (f x)) (sym same) ∙ get_or-map f xs i x ∙ ap f (sym here) in
      drop-cons (map f ys) i (f x) (subst (λ n. i < n) (sym (length-map ys f)) within)
      ∙ (λ j. at j ∷ drop (sym (add-one i) j) (map f ys))

-- an event before the remaining filters, after the first of them was applied
pub onwards : (kinds more : List FilterKind) (kind : FilterKind) (rest : List FilterKind) (left event : Event) (after : Option Event)
    → rest ≡ kind ∷ more → after ≡ step_of kind left → through rest left ≡ through kinds event → option_and_then (through more) after ≡ through kinds event
onwards kinds more kind rest left event after here one so_far = ap (option_and_then (through more)) one ∙ ap (λ ks. through ks left) (sym here) ∙ so_far
