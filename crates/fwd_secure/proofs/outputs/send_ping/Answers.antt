use Rattle.fwd_secure.specs.declared.outputs.Pushing.TheVariants.{Sent, Waits, Fails}
use Rattle.fwd_secure.proofs.RuleSteps.{cut}
use Rattle.fwd_secure.proofs.OutputSteps.{ping_unsent, ping_in_vain, ping_done, ping_ended, ping_failed}
use Rattle.fwd_secure.proofs.outputs.send_ping.Goals as goal

pub returns-in_err-pushing-clause-calls : goal.returns-in_err-pushing-clause-calls
returns-in_err-pushing-clause-calls g c =
    cut _ _ _ c.from_residual.result _ c.from_residual.ensures.0
    (ping_unsent c.args.ring.now c.args.state.now c.args.link c.args.handshake _ _ c.args.rest _ c.as_slice.ensures c.in_err-pushing.ensures.calls)

pub returns-in_err-rest-clause-calls : goal.returns-in_err-rest-clause-calls
returns-in_err-rest-clause-calls g c =
    cut _ _ _ c.from_residual-in_err-rest.result _ c.from_residual-in_err-rest.ensures.0
    (ping_in_vain c.args.ring.now c.args.state.now c.args.link c.args.handshake _ _ c.args.rest _ c.as_slice.ensures c.in_ok-pushing.pushing c.in_ok-pushing.taken c.in_ok-pushing.ensures.calls)

pub returns-in-Sent-clause-calls : goal.returns-in-Sent-clause-calls
returns-in-Sent-clause-calls g c =
    ping_done c.args.ring.now c.args.state.now c.args.link c.args.handshake _ _ c.args.rest _ c.as_slice.ensures c.in_ok-pushing.pushing c.in_ok-pushing.taken c.in_ok-pushing.ensures.calls
    Sent c.in_ok-rest.rest c.in-Sent.is (cc (c.in_ok-rest.ensures, c.as_slice-2.ensures)) c.await_pong.result c.await_pong.new.state c.await_pong.ensures.ok

pub returns-in-Waits-clause-calls : goal.returns-in-Waits-clause-calls
returns-in-Waits-clause-calls g c =
    ping_done c.args.ring.now c.args.state.now c.args.link c.args.handshake _ _ c.args.rest _ c.as_slice.ensures c.in_ok-pushing.pushing c.in_ok-pushing.taken c.in_ok-pushing.ensures.calls
    Waits c.in_ok-rest.rest c.in-Waits.is (cc (c.in_ok-rest.ensures, c.as_slice-2.ensures)) c.wait_more.result c.wait_more.new.state c.wait_more.ensures.ok

pub returns-in_err-put_step-in-Fails-clause-calls : goal.returns-in_err-put_step-in-Fails-clause-calls
returns-in_err-put_step-in-Fails-clause-calls g c =
    cut _ _ _ c.from_residual-in_err-put_step-in-Fails.result _ c.from_residual-in_err-put_step-in-Fails.ensures.0
    (ping_in_vain c.args.ring.now c.args.state.now c.args.link c.args.handshake _ _ c.args.rest _ c.as_slice.ensures c.in_ok-pushing.pushing c.in_ok-pushing.taken c.in_ok-pushing.ensures.calls)

pub returns-clause-calls : goal.returns-clause-calls
returns-clause-calls g c =
    ping_ended c.args.ring.now c.args.state.now c.args.link c.args.handshake _ _ c.args.rest _ c.as_slice.ensures c.in_ok-pushing.pushing c.in_ok-pushing.taken c.in_ok-pushing.ensures.calls
    Fails c.in_ok-rest.rest c.in-Fails.is (cc (c.in_ok-rest.ensures, c.as_slice-2.ensures)) _ _
    (ping_failed c.args.ring.now c.args.state.now c.args.link c.args.handshake c.in_ok-rest.rest _ c.in_ok-put_step-in-Fails.ensures.ok)
