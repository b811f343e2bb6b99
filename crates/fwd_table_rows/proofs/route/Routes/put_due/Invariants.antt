use Rattle.std.proofs.Common.{◌≡◌, ◌++◌, drop}
use Rattle.std.specs.Prelude.{filter, nat_le}
use Rattle.fwd_retry.specs.declared.timer.Timer.{Timer}
use Rattle.fwd_table_rows.specs.Routes.{idle_timers}
use Rattle.fwd_table_rows.proofs.route.Routes.put_due.Given as goal

abbrev pub invariant-loop-route : goal.invariant-loop-route
invariant-loop-route l =
    l.timers.items ++ filter (λ (t : Timer). nat_le t.due l.now) (idle_timers l.chunk (drop l.route-index l.route-items))
    ≡ l.initial.timers.items ++ filter (λ (t : Timer). nat_le t.due l.now) (idle_timers l.chunk l.route-items)
