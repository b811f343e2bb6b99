use Rattle.std.proofs.Common.{refl}
use Rattle.fwd_secure.proofs.RuleSteps.{cut}
use Rattle.fwd_secure.proofs.PassedOn.{drop_passes, drop_stops}
use Rattle.fwd_secure.proofs.rules.drop_conn.Goals as goal

pub returns-in_err-drop_conn-clause-calls : goal.returns-in_err-drop_conn-clause-calls
returns-in_err-drop_conn-clause-calls g c keys =
    cut _ _ _ c.from_residual.result _ c.from_residual.ensures.0 (drop_stops c.args.keyed keys c.args.state.now _ _ c.args.conn.0 c.in_err-drop_conn.ensures.call_log)

pub returns-then-not-keyed-clause-calls : goal.returns-then-not-keyed-clause-calls
returns-then-not-keyed-clause-calls g c keys = drop_passes c.args.keyed keys c.args.state.now _ _ _ c.args.conn.0 (rw c.if-not-keyed.true refl) c.in_ok-drop_conn.ensures.call_log

pub returns-clause-calls : goal.returns-clause-calls
returns-clause-calls g c keys = drop_passes c.args.keyed keys c.args.state.now _ _ _ c.args.conn.0 (rw c.if-not-keyed.false c.drop_conn-2.ensures) c.in_ok-drop_conn.ensures.call_log
