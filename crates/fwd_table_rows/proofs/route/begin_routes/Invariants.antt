use Rattle.std.proofs.Common.{◌≡◌, map, take, drop, ◌++◌}
use Rattle.fwd_table_rows.specs.Routes.{due_at}
use Rattle.fwd_table_rows.proofs.route.begin_routes.Given as goal

abbrev pub invariant-loop-route : goal.invariant-loop-route
invariant-loop-route l = l.routes ≡ map (due_at l.due) (take l.route-index l.initial.routes) ++ drop l.route-index l.initial.routes
