use Rattle.std.proofs.Common.{◌≡◌, ◌∙◌, sym, ap, refl, rules, tests}
use Rattle.std.specs.List.{list_all}
use Rattle.std.specs.Slice.Iter.{iter_rest}
use Rattle.std.proofs.lemmas.Iterator.{YieldsList-from_slice}
use Rattle.std.proofs.lemmas.Iterator.Search.{all_from_yields_List}
use Rattle.std.proofs.lemmas.List.Folds.{list_all-map}
use Rattle.fwd_value.specs.View.{pair_of}
use Rattle.fwd_reshape.proofs.Depths.{pair_fits, fits-gathered}
use Rattle.fwd_reshape.proofs.moves.fits_gathered.Goals as goal

pub returns : goal.returns
returns c =
    let test = pair_fits c.args.rule.now.wildcards in
    let items = iter_rest c.iter.result in
    let of_items : c.all.result ≡ list_all (λ p. test (pair_of p)) items =
    all_from_yields_List (λ p. test (pair_of p)) _ _ c.all.result c.all.ensures.ran (YieldsList-from_slice items refl) (λ x b q k. search (rules, tests)) in
    of_items ∙ sym (list_all-map test pair_of items) ∙ ap (list_all test) c.iter.ensures ∙ sym (fits-gathered c.args.rule.now c.args.body.now)
