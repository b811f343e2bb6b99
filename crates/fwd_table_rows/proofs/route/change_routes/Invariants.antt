use Rattle.std.proofs.Common.{◌≡◌, map, take, drop, ◌++◌}
use Rattle.std.specs.Prelude.{if◌then◌else◌}
use Rattle.fwd_table_rows.specs.Routes.{is_to}
use Rattle.fwd_table_rows.specs.Changes.{with_change}
use Rattle.fwd_table_rows.proofs.route.change_routes.Given as goal

abbrev pub invariant-loop-route : goal.invariant-loop-route
invariant-loop-route l = l.routes ≡ map (λ r. if is_to l.output r then with_change l.change r else r) (take l.route-index l.initial.routes) ++ drop l.route-index l.initial.routes
