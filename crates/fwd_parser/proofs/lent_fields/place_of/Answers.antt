use Rattle.std.proofs.Common.{◌≡◌, ◌∙◌, sym, ap, refl, rules, tests}
use Rattle.std.specs.Prelude.{position}
use Rattle.std.specs.Slice.Iter.{iter_rest}
use Rattle.std.proofs.lemmas.Iterator.{YieldsList-from_slice}
use Rattle.std.proofs.lemmas.Iterator.Search.{position_from_yields_List}
use Rattle.fwd_value.specs.Keys.{has_key}
use Rattle.fwd_value.proofs.MappedLists.{position-map}
use Rattle.fwd_parser.specs.LentFields.{lent_field, lent_record}
use Rattle.fwd_parser.proofs.lent_fields.place_of.Goals as goal

pub returns : goal.returns
returns c = λ floats types.
    let test = has_key c.args.key.now in
    let items = iter_rest c.iter.result in
    let of_items : c.position.result ≡ position (λ g. test (lent_field floats types g)) items =
    position_from_yields_List (λ g. test (lent_field floats types g)) _ _ c.position.result c.position.ensures.ran (YieldsList-from_slice items refl) (λ x b q k. search (rules, tests)) in
    of_items ∙ sym (position-map (lent_field floats types) test items) ∙ ap (λ gs. position test (lent_record floats types gs)) c.iter.ensures.rest
