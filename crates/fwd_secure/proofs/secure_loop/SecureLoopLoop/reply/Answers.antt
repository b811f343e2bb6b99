use Rattle.std.proofs.Common.{None}
use Rattle.fwd_outside.specs.Loop.{Reply}
use Rattle.fwd_secure.proofs.PassedOn.{reply_passes}
use Rattle.fwd_secure.proofs.Closing.{reply_closes, nothing_closes, same_counts}
use Rattle.fwd_secure.proofs.secure_loop.SecureLoopLoop.reply.Goals as goal

pub invariant_of-self : goal.invariant_of-self
invariant_of-self g c =
    nothing_closes c.self.invariant c.if-self.false (Reply c.args.conn.0 c.args.bytes.now) c.self.inside.state _ tt
    (reply_passes c.self.inside.keyed c.self.inside.keys c.self.inside.state _ _ c.args.conn.0 c.args.bytes.now None c.in-Memory.ensures.call_log) (same_counts _ _ c.in-Memory.ensures.same)
    c.in-Memory.ensures.cause.later

pub invariant_of-self-in_default : goal.invariant_of-self-in_default
invariant_of-self-in_default g c =
    reply_closes c.self.invariant c.if-self.false c.args.conn.0 c.args.bytes.now c.reply.result _ _ c.in_default.not-Memory c.reply.ensures.call_log
    c.reply.ensures.same c.reply.ensures.cause.later c.then-self-inside.ensures.1
