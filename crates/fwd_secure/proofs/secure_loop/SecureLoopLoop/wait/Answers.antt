use Rattle.fwd_base.specs.declared.memory.Memory.{Memory}
use Rattle.fwd_outside.specs.Loop.{Wait}
use Rattle.fwd_secure.proofs.Closing.{wait_closes, wait_failed, wait_stops, wait_counts_rise}
use Rattle.fwd_secure.proofs.secure_loop.SecureLoopLoop.wait.Goals as goal

pub invariant_of-self : goal.invariant_of-self
invariant_of-self g c =
    wait_closes c.self.invariant c.if-self.false Memory c.args.until c.args.paused c.in-Ok.brought _ _ _ _ c.in-Ok.ensures.calls c.in-Ok.ensures.counted
    (wait_failed _ _ c.args.until c.args.paused c.in-Ok.brought c.in-Ok.ensures.cause) c.are_bytes.ensures c.saturating_add-self-inside.ensures c.then-self-inside.ensures.1

pub invariant_of-self-in-Err : goal.invariant_of-self-in-Err
invariant_of-self-in-Err g c =
    wait_stops c.self.invariant c.if-self.false c.args.until c.args.paused _ _ c.in-Err.ensures.calls (wait_counts_rise _ _ _ _ c.in-Err.ensures.counted) c.in-Err.ensures.cause.later
