use Rattle.std.proofs.Common.{◌≡◌, ◌∙◌, sym, ap, refl, rules, tests}
use Rattle.std.specs.List.{list_any}
use Rattle.std.specs.Slice.Iter.{iter_rest}
use Rattle.std.proofs.lemmas.Iterator.{YieldsList-from_slice}
use Rattle.std.proofs.lemmas.Iterator.Search.{any_from_yields_List}
use Rattle.fwd_value.specs.View.{pair_of}
use Rattle.fwd_value.specs.Keys.{has_key}
use Rattle.fwd_value.proofs.MappedLists.{list_any-map, is_some-find}
use Rattle.fwd_value.proofs.keys.has.Goals as goal

pub returns : goal.returns
returns c =
    let test = has_key c.args.key.now in
    let items = iter_rest c.iter.result in
    let of_items : c.any.result ≡ list_any (λ p. test (pair_of p)) items =
    any_from_yields_List (λ p. test (pair_of p)) _ _ c.any.result c.any.ensures.ran (YieldsList-from_slice items refl) (λ x b q k. search (rules, tests)) in
    of_items ∙ sym (list_any-map pair_of test items) ∙ ap (list_any test) c.iter.ensures ∙ sym (is_some-find pair_of test c.args.body.now)
