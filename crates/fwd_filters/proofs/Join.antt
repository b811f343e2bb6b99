-- What several threads leave of the parts of a list, joined.
use Rattle.std.proofs.Common.{◌≡◌, ◌∙◌, sym, ap, subst, List, [], ◌∷◌, ◌++◌, Option, map, refl, IfOk}
use Rattle.std.specs.Prelude.{Ok}
use Rattle.std.specs.declared.result.Result.{Result}
use Rattle.std.specs.List.{AllZip, filter_map, flat_map}
use Rattle.std.proofs.lemmas.List.Elements.{filter_map-append}

module _ {P Q X Y : Type 0} (E : Type 0) (items : P → List X) (left : Q → List Y) (f : X → Option Y) where
  abbrev IsLeft : P → Result Q E → Type 0
  IsLeft p r = IfOk r (λ part. left part ≡ filter_map f (items p))

  join_parts : (ps : List P) (parts : List Q) → AllZip IsLeft ps (map Ok parts) → flat_map left parts ≡ filter_map f (flat_map items ps)
  join_parts [] [] h = refl
  join_parts [] (part ∷ parts) h = absurd h
  join_parts (p ∷ ps) [] h = absurd h
  join_parts (p ∷ ps) (part ∷ parts) h =
      (λ i. h.0 i ++ join_parts ps parts h.1 i) ∙ sym (filter_map-append f (items p) (flat_map items ps))

  -- the parts in order, if all results are `Ok`
  pub join_parts_in_order : (ps : List P) (rs : List (Result Q E)) (parts : List Q) (xs : List X)
      → flat_map items ps ≡ xs → AllZip IsLeft ps rs → rs ≡ map Ok parts → flat_map left parts ≡ filter_map f xs
  join_parts_in_order ps rs parts xs whole each oks = join_parts ps parts (subst (λ l. AllZip IsLeft ps l) oks each) ∙ ap (filter_map f) whole
