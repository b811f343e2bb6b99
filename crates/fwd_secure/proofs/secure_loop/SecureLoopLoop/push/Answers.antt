use Rattle.fwd_outside.specs.Loop.{Push}
use Rattle.fwd_secure.proofs.Closing.{push_closes, nothing_closes, same_counts}
use Rattle.fwd_secure.proofs.secure_loop.SecureLoopLoop.push.Goals as goal

pub invariant_of-self : goal.invariant_of-self
invariant_of-self g c =
    nothing_closes c.self.invariant c.if-self.false (Push c.args.link.0 c.args.bytes.now) _ _ tt (c.in-Memory.ensures.calls c.self.inside.keys) (same_counts _ _ c.in-Memory.ensures.same)
    c.in-Memory.ensures.cause.later

pub invariant_of-self-in_default : goal.invariant_of-self-in_default
invariant_of-self-in_default g c =
    push_closes c.self.invariant c.if-self.false c.args.link.0 c.args.bytes.now c.push.result _ _ c.in_default.not-Memory (c.push.ensures.calls c.self.inside.keys)
    c.push.ensures.same c.push.ensures.cause.later c.then-self-inside.ensures.1
