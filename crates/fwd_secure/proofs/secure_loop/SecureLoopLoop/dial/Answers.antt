use Rattle.std.proofs.Common.{None, refl}
use Rattle.fwd_outside.specs.Loop.{Dial}
use Rattle.fwd_secure.proofs.Closing.{call_closes, dial_closes, no_failure, nothing_closes}
use Rattle.fwd_secure.proofs.secure_loop.SecureLoopLoop.dial.Goals as goal

pub invariant_of-self : goal.invariant_of-self
invariant_of-self g c =
    dial_closes c.self.invariant c.if-self.false c.args.output.0 c.args.tag.now c.in-Link.link.0 _ _ _ c.in-Link.ensures.calls c.in-Link.ensures.counted.0 c.in-Link.ensures.counted.1 c.in-Link.ensures.cause.later
    c.then-self-inside.ensures.1

pub invariant_of-self-in-Refused : goal.invariant_of-self-in-Refused
invariant_of-self-in-Refused g c =
    call_closes c.self.invariant c.if-self.false (Dial c.args.output.0 c.args.tag.now) None _ _ _ tt c.in-Refused.ensures.calls c.in-Refused.ensures.counted
    (no_failure _ _ (Dial c.args.output.0 c.args.tag.now) None refl c.in-Refused.ensures.cause.later) tt refl c.then-self-inside-in-Refused.ensures.1

pub invariant_of-self-in-Memory : goal.invariant_of-self-in-Memory
invariant_of-self-in-Memory g c =
    nothing_closes c.self.invariant c.if-self.false (Dial c.args.output.0 c.args.tag.now) _ _ tt c.in-Memory.ensures.calls c.in-Memory.ensures.counted c.in-Memory.ensures.cause.later
