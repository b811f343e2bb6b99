use Rattle.std.proofs.Common.{◌≡◌, drop}
use Rattle.std.specs.Prelude.{◌||◌}
use Rattle.fwd_retry.specs.declared.timer.Timer.{Timer}
use Rattle.fwd_table.specs.DueIndex.{is_among, is_listed}
use Rattle.fwd_table.proofs.DueIndex.{routes_in}
use Rattle.fwd_table.proofs.due_index.DueIndex.insert_row.Given as goal

abbrev pub invariant-loop-route : goal.invariant-loop-route
invariant-loop-route l =
    (timer : Timer)
    → (is_among (routes_in l.row.chunk l.scope (drop l.route-index l.route-items)) timer || is_listed l.self timer)
    ≡ (is_among (routes_in l.row.chunk l.scope l.route-items) timer || is_listed l.initial.self timer)
