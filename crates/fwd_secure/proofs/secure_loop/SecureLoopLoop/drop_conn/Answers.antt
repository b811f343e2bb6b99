use Rattle.std.proofs.Common.{refl}
use Rattle.fwd_outside.specs.Loop.{DropConn}
use Rattle.fwd_secure.proofs.Closing.{call_closes, no_failure, nothing_closes, same_counts}
use Rattle.fwd_secure.proofs.secure_loop.SecureLoopLoop.drop_conn.Goals as goal

pub invariant_of-self : goal.invariant_of-self
invariant_of-self g c =
    call_closes c.self.invariant c.if-self.false (DropConn c.args.conn.0) tt _ _ _ tt (c.in-Ok.ensures.calls c.self.inside.keys) c.in-Ok.ensures.same
    (no_failure _ _ (DropConn c.args.conn.0) tt refl c.in-Ok.ensures.later) tt refl c.then-self-inside.ensures.1

pub invariant_of-self-in-Err : goal.invariant_of-self-in-Err
invariant_of-self-in-Err g c =
    nothing_closes c.self.invariant c.if-self.false (DropConn c.args.conn.0) _ _ tt (c.in-Err.ensures.calls c.self.inside.keys) (same_counts _ _ c.in-Err.ensures.same) c.in-Err.ensures.later
