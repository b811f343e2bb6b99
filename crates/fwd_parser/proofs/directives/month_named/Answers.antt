use Rattle.std.proofs.Common.{◌≡◌, ℕ, suc, ◌∙◌, sym, ap, List, map, option_map, refl, rules, tests}
use Rattle.std.specs.Prelude.{position}
use Rattle.std.specs.Char.{to_ascii_lowercase}
use Rattle.std.specs.Str.{bytes_eq}
use Rattle.std.specs.Slice.Iter.{iter_rest}
use Rattle.std.proofs.lemmas.Iterator.{YieldsList-from_slice}
use Rattle.std.proofs.lemmas.Iterator.Search.{position_from_yields_List}
use Rattle.fwd_parser.specs.Time.{month_named}
use Rattle.fwd_parser.proofs.directives.month_named.Goals as goal

pub returns-in-None : goal.returns-in-None
unfolding month_named
returns-in-None c =
    let test = λ (name : List ℕ). bytes_eq (map to_ascii_lowercase c.args.letters.now) (map to_ascii_lowercase name) in
    let items = iter_rest c.iter.result in
    let of_items : c.position-place.result ≡ position test items =
    position_from_yields_List test _ _ c.position-place.result c.position-place.ensures.ran (YieldsList-from_slice items refl) (λ x b q k. search (rules, tests)) in
    ap (option_map suc) (sym c.in-None.is ∙ of_items ∙ ap (position test) c.iter.ensures.rest)
