use Rattle.fwd_secure.specs.Inputs.{drops}
use Rattle.fwd_secure.proofs.RuleSteps.{cut, stopped}
use Rattle.fwd_secure.proofs.InputSteps.{conn_dropped}
use Rattle.fwd_secure.proofs.inputs.drop_conn.Goals as goal

pub returns-in_err-drop_conn-clause-calls : goal.returns-in_err-drop_conn-clause-calls
returns-in_err-drop_conn-clause-calls g c k =
    cut _ _ (drops k c.args.input c.args.conn) c.from_residual.result k c.from_residual.ensures.0 (stopped _ _ (drops k c.args.input c.args.conn) c.in_err-drop_conn.ensures.call_log)

pub returns-clause-calls : goal.returns-clause-calls
returns-clause-calls g c k = conn_dropped _ _ k c.args.input c.args.conn c.in_ok-drop_conn.ensures.call_log
