use Rattle.std.proofs.Common.{◌≡◌, drop, Some}
use Rattle.std.specs.Prelude.{filter, fold}
use Rattle.fwd_retry.specs.Timer.{earlier, is_next}
use Rattle.fwd_table_rows.specs.Routes.{idle_timers}
use Rattle.fwd_table_rows.proofs.route.Routes.next.Given as goal

abbrev pub invariant-loop-route : goal.invariant-loop-route
invariant-loop-route l =
    fold (λ found timer. Some (earlier found timer)) l.first (filter (is_next l.now l.after) (idle_timers l.chunk (drop l.route-index l.route-items)))
    ≡ fold (λ found timer. Some (earlier found timer)) l.fn.first (filter (is_next l.now l.after) (idle_timers l.chunk l.route-items))
