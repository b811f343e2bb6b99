use Rattle.fwd_outside.specs.Loop.{Start}
use Rattle.fwd_secure.proofs.Closing.{start_closes, nothing_closes, same_counts}
use Rattle.fwd_secure.proofs.secure_loop.SecureLoopLoop.start.Goals as goal

pub invariant_of-self : goal.invariant_of-self
invariant_of-self g c =
    nothing_closes c.self.invariant c.if-self.false (Start c.args.ends.now) _ _ tt (c.in-Memory.ensures.calls c.self.inside.keys) (same_counts _ _ c.in-Memory.ensures.same) c.in-Memory.ensures.cause.later

pub invariant_of-self-in_default : goal.invariant_of-self-in_default
invariant_of-self-in_default g c =
    start_closes c.self.invariant c.if-self.false c.args.ends.now c.start.result _ _ _ c.in_default.not-Memory (c.start.ensures.calls c.self.inside.keys) c.start.ensures.same
    c.start.ensures.cause c.then-self-inside.ensures.1
