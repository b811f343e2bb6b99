use Rattle.std.proofs.Common.{◌≡◌, ◌∙◌, ap, refl, rules, tests}
use Rattle.std.specs.List.{list_any}
use Rattle.std.specs.Slice.Iter.{iter_rest}
use Rattle.std.proofs.lemmas.Iterator.{YieldsList-from_slice}
use Rattle.std.proofs.lemmas.Iterator.Search.{any_from_yields_List}
use Rattle.fwd_reshape.specs.Moves.{wildcard_matches}
use Rattle.fwd_reshape.proofs.moves.is_matched.Goals as goal

pub returns : goal.returns
returns c =
    let items = iter_rest c.iter.result in
    let of_items : c.any.result ≡ list_any (wildcard_matches c.in-Text.text) items =
    any_from_yields_List (wildcard_matches c.in-Text.text) _ _ c.any.result c.any.ensures.ran (YieldsList-from_slice items refl) (λ x b q k. search (rules, tests)) in
    rw c.in-Text.is (of_items ∙ ap (list_any (wildcard_matches c.in-Text.text)) c.iter.ensures)
