use Rattle.std.proofs.Common.{length, ◌<◌, arith}
use Rattle.std.proofs.lemmas.List.{get_or_default}
use Rattle.std.proofs.lemmas.List.Edits.{map_over_more}
use Rattle.fwd_table_rows.specs.Routes.{due_at}
use Rattle.fwd_table_rows.proofs.route.begin_routes.Goals as goal

pub loop-route-preserved : goal.loop-route-preserved
loop-route-preserved c =
    let here : c.loop-route.route-index < length c.loop-route.routes = omega arith in
    map_over_more (due_at c.args.due) c.args.routes.now c.loop-route.routes c.loop-route.route-index _ c.loop-route-test.true c.loop-route.invariant
    (get_or_default c.loop-route.routes c.loop-route.route-index _ _ here)
