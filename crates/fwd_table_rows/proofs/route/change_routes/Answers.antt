use Rattle.std.proofs.Common.{length, ◌<◌, arith}
use Rattle.std.specs.Prelude.{if◌then◌else◌}
use Rattle.std.proofs.lemmas.List.{get_or_default}
use Rattle.std.proofs.lemmas.List.Edits.{map_over_more}
use Rattle.fwd_table_rows.specs.declared.route.Route.{Route}
use Rattle.fwd_table_rows.specs.Routes.{is_to}
use Rattle.fwd_table_rows.specs.Changes.{with_change}
use Rattle.fwd_table_rows.proofs.route.change_routes.Goals as goal

pub loop-route-preserved : goal.loop-route-preserved
loop-route-preserved c =
    let here : c.loop-route.route-index < length c.loop-route.routes = omega arith in
    rw c.with_change_at.ensures
    (map_over_more (λ (r : Route). if is_to c.args.output r then with_change c.args.change r else r) c.args.routes.now c.loop-route.routes c.loop-route.route-index _ c.loop-route-test.true c.loop-route.invariant
    (get_or_default c.loop-route.routes c.loop-route.route-index _ _ here))
