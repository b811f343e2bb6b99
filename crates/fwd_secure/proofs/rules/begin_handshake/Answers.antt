use Rattle.fwd_secure.proofs.RuleSteps.{cut_mapped}
use Rattle.fwd_secure.proofs.EventCalls.{salt_undrawn, handshake_begun}
use Rattle.fwd_secure.proofs.rules.begin_handshake.Goals as goal

pub returns-in_err-salt-clause-calls : goal.returns-in_err-salt-clause-calls
returns-in_err-salt-clause-calls g c =
    cut_mapped _ _ _ _ c.from_residual.result _ c.from_residual.ensures.0 (salt_undrawn c.args.state.now c.args.output.0 _ _ c.args.link.0 c.in_err-salt.ensures.calls)

pub returns-clause-calls : goal.returns-clause-calls
returns-clause-calls g c =
    handshake_begun c.args.state.now c.args.output.0 _ _ c.args.link.0 c.in_ok-salt.salt _ _ c.put_handshake.result _ c.in_ok-salt.ensures.calls c.new.ensures c.new-2.ensures c.put_handshake.ensures.ok
