use Rattle.std.proofs.Common.{◌≡◌, ◌∙◌, sym, ap, option_map, refl, rules, tests}
use Rattle.std.specs.Prelude.{find}
use Rattle.std.specs.Slice.Iter.{iter_rest}
use Rattle.std.proofs.lemmas.Iterator.{YieldsList-from_slice}
use Rattle.std.proofs.lemmas.Iterator.Search.{find_from_yields_List}
use Rattle.fwd_value.specs.Val.{Val}
use Rattle.fwd_value.specs.View.{pair_of}
use Rattle.fwd_value.specs.Keys.{has_key}
use Rattle.fwd_value.proofs.MappedLists.{find-map}
use Rattle.fwd_value.proofs.keys.value_of.Goals as goal

pub returns-in-Some : goal.returns-in-Some
returns-in-Some c =
    let test = has_key c.args.key.now in
    let items = iter_rest c.iter.result in
    let of_items : option_map (λ y. y.now) c.find.result ≡ find (λ p. test (pair_of p)) items =
    find_from_yields_List (λ p. test (pair_of p)) _ _ c.find.result c.find.ensures.ran (YieldsList-from_slice items refl) (λ x b q k. search (rules, tests)) in
    let here = rw c.in-Some.is at of_items in
    ap (option_map (λ (p : Val × Val). p.1)) (ap (option_map pair_of) here ∙ sym (find-map pair_of test items) ∙ ap (find test) c.iter.ensures)

pub returns-in-None : goal.returns-in-None
returns-in-None c =
    let test = has_key c.args.key.now in
    let items = iter_rest c.iter.result in
    let of_items : option_map (λ y. y.now) c.find.result ≡ find (λ p. test (pair_of p)) items =
    find_from_yields_List (λ p. test (pair_of p)) _ _ c.find.result c.find.ensures.ran (YieldsList-from_slice items refl) (λ x b q k. search (rules, tests)) in
    let here = rw c.in-None.is at of_items in
    ap (option_map (λ (p : Val × Val). p.1)) (ap (option_map pair_of) here ∙ sym (find-map pair_of test items) ∙ ap (find test) c.iter.ensures)
