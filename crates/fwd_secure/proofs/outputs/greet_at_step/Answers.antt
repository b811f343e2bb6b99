use Rattle.fwd_secure.specs.declared.handshakes.Step.TheVariants.{AwaitsHelo, SendsPing, AwaitsPong}
use Rattle.fwd_secure.proofs.RuleSteps.{pure_call}
use Rattle.fwd_secure.proofs.OutputSteps.{step_taken}
use Rattle.fwd_secure.proofs.outputs.greet_at_step.Goals as goal

pub returns-in-AwaitsHelo-clause-calls : goal.returns-in-AwaitsHelo-clause-calls
returns-in-AwaitsHelo-clause-calls g c = step_taken c.args.ring.now c.args.state.now c.args.link c.replace.new.dest _ _ c.args.handshake AwaitsHelo _ c.in-AwaitsHelo.ensures.value c.await_helo.ensures.calls

pub returns-in-SendsPing-clause-calls : goal.returns-in-SendsPing-clause-calls
returns-in-SendsPing-clause-calls g c = step_taken c.args.ring.now c.args.state.now c.args.link c.replace.new.dest _ _ c.args.handshake (SendsPing c.in-SendsPing.rest) _ c.in-SendsPing.ensures.value c.send_ping.ensures.calls

pub returns-in-AwaitsPong-clause-calls : goal.returns-in-AwaitsPong-clause-calls
returns-in-AwaitsPong-clause-calls g c =
    step_taken c.args.ring.now c.args.state.now c.args.link c.replace.new.dest _ _ c.args.handshake AwaitsPong _ c.in-AwaitsPong.ensures.value (pure_call _ _ c.await_pong.result c.await_pong.new.state c.await_pong.ensures.ok)
