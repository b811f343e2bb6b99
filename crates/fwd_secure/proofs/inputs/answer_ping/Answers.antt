use Rattle.std.proofs.Common.{Some, None}
use Rattle.fwd_outside.specs.Program.{Ask}
use Rattle.fwd_outside.specs.Loop.{Reply}
use Rattle.fwd_secure.specs.Inputs.{enters_or_drops}
use Rattle.fwd_secure.proofs.RuleSteps.{goes_on, pure_call, stopped}
use Rattle.fwd_secure.proofs.inputs.answer_ping.Goals as goal

pub returns-in-Taken-clause-calls : goal.returns-in-Taken-clause-calls
returns-in-Taken-clause-calls g c =
    goes_on _ _ _ (Reply c.args.conn.0 c.args.message.now) (Some tt) (enters_or_drops c.args.state.now c.args.input c.args.conn c.args.rest) _ c.in-Taken.ensures.call_log
    (pure_call _ (enters_or_drops c.args.state.now c.args.input c.args.conn c.args.rest (Some tt)) c.accept.result c.accept.new.state c.accept.ensures.ok)

pub returns-in-Broken-clause-calls : goal.returns-in-Broken-clause-calls
returns-in-Broken-clause-calls g c =
    goes_on _ _ _ (Reply c.args.conn.0 c.args.message.now) None (enters_or_drops c.args.state.now c.args.input c.args.conn c.args.rest) _ c.in-Broken.ensures.call_log (c.drop_conn.ensures.calls c.args.state.now)

pub returns-in-Memory-clause-calls : goal.returns-in-Memory-clause-calls
returns-in-Memory-clause-calls g c =
    stopped _ _ (Ask (Reply c.args.conn.0 c.args.message.now) (enters_or_drops c.args.state.now c.args.input c.args.conn c.args.rest)) c.in-Memory.ensures.call_log
