use Rattle.std.proofs.Common.{◌≡◌, arith}
use Rattle.std.specs.Prelude.{filter}
use Rattle.std.proofs.lemmas.Grind.{common_steps}
use Rattle.fwd_retry.specs.Timer.{first, is_next}
use Rattle.fwd_retry.proofs.Order.{first_is_first}
use Rattle.fwd_retry.proofs.timers.Timers.next.Goals as goal

pub returns-clause-first : goal.returns-clause-first
returns-clause-first c =
    let due = filter (is_next c.args.now c.args.after) c.args.self.now.timers in
    let value : c.loop-timer.first ≡ first due = grind (arith, common_steps) in
    rw value (first_is_first due)
