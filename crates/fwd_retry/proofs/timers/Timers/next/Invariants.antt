use Rattle.std.proofs.Common.{◌≡◌, drop, Some, None}
use Rattle.std.specs.Prelude.{filter, fold}
use Rattle.fwd_retry.specs.Timer.{earlier, is_next}
use Rattle.fwd_retry.proofs.timers.Timers.next.Given as goal

abbrev pub invariant-loop-timer : goal.invariant-loop-timer
invariant-loop-timer l =
    fold (λ found timer. Some (earlier found timer)) l.first (filter (is_next l.now l.after) (drop l.timer-index l.timer-items))
    ≡ fold (λ found timer. Some (earlier found timer)) None (filter (is_next l.now l.after) l.timer-items)
