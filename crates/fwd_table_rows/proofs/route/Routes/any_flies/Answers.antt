use Rattle.std.proofs.Common.{◌≡◌, ◌∙◌, ap, refl, rules, tests}
use Rattle.std.specs.List.{list_any}
use Rattle.std.specs.Slice.Iter.{iter_rest}
use Rattle.std.proofs.lemmas.Iterator.{YieldsList-from_slice}
use Rattle.std.proofs.lemmas.Iterator.Search.{any_from_yields_List}
use Rattle.fwd_table_rows.specs.declared.route.Route.{Route}
use Rattle.fwd_table_rows.proofs.RowSums.{any_flying}
use Rattle.fwd_table_rows.proofs.route.Routes.any_flies.Goals as goal

pub returns : goal.returns
returns c =
    let flying = λ (r : Route). r.flying in
    let items = iter_rest c.iter.result in
    let of_items : c.any.result ≡ list_any flying items = any_from_yields_List flying _ _ c.any.result c.any.ensures.ran (YieldsList-from_slice items refl) (λ x b q k. search (rules, tests)) in
    of_items ∙ ap (list_any flying) (c.iter.ensures.rest ∙ c.deref.ensures.value ∙ c.self.view_is) ∙ any_flying c.args.self.now
