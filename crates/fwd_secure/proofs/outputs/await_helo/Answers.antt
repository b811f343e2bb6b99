use Rattle.fwd_handshake.specs.declared.received.Received.TheVariants as received
use Rattle.fwd_secure.proofs.RuleSteps.{cut, unasked}
use Rattle.fwd_secure.proofs.OutputSteps.{helo_done, helo_answered}
use Rattle.fwd_secure.proofs.outputs.await_helo.Goals as goal

pub returns-in_err-read_helo-clause-calls : goal.returns-in_err-read_helo-clause-calls
returns-in_err-read_helo-clause-calls g c = cut _ _ _ c.from_residual.result _ c.from_residual.ensures.0 (unasked _ _)

pub returns-in_err-salt-in-Right-clause-calls : goal.returns-in_err-salt-in-Right-clause-calls
returns-in_err-salt-in-Right-clause-calls g c = cut _ _ _ c.from_residual-in_err-salt-in-Right.result _ c.from_residual-in_err-salt-in-Right.ensures.0 (unasked _ _)

pub returns-in_err-message-in-Right-clause-calls : goal.returns-in_err-message-in-Right-clause-calls
returns-in_err-message-in-Right-clause-calls g c = cut _ _ _ c.from_residual-in_err-message-in-Right.result _ c.from_residual-in_err-message-in-Right.ensures.0 (unasked _ _)

pub returns-in_err-handshake-in-Right-clause-calls : goal.returns-in_err-handshake-in-Right-clause-calls
returns-in_err-handshake-in-Right-clause-calls g c = cut _ _ _ c.from_residual-in_err-handshake-in-Right.result _ c.from_residual-in_err-handshake-in-Right.ensures.0 (unasked _ _)

pub ping-requires-clause-nonce : goal.ping-requires-clause-nonce
ping-requires-clause-nonce g c = let short = rw c.in-Right.is at c.in_ok-read_helo.ensures.short in rw c.as_slice-in-Right-2.ensures short

pub returns-in-More-clause-calls : goal.returns-in-More-clause-calls
returns-in-More-clause-calls g c =
    helo_done c.args.ring.now c.args.state.now c.args.link c.args.handshake _ received.More (cc (c.in-More.is, c.in_ok-read_helo.ensures.received, c.as_slice.ensures)) c.wait_more.result c.wait_more.new.state c.wait_more.ensures.ok

pub returns-in_ok-handshake-in-Right-clause-calls : goal.returns-in_ok-handshake-in-Right-clause-calls
returns-in_ok-handshake-in-Right-clause-calls g c =
    helo_answered c.args.ring.now c.args.state.now c.args.link c.args.handshake _ _ c.in-Right.len c.in-Right.content _ _ _ (cc (c.in-Right.is, c.in_ok-read_helo.ensures.received, c.as_slice.ensures))
    (cc (c.in_ok-message-in-Right.ensures, c.as_slice-in-Right.ensures, c.as_slice-in-Right-2.ensures, c.in_ok-salt-in-Right.ensures)) (cc (c.in_ok-handshake-in-Right.ensures, c.as_slice-in-Right-3.ensures)) c.send_ping.ensures.calls

pub returns-in-Wrong-clause-calls : goal.returns-in-Wrong-clause-calls
returns-in-Wrong-clause-calls g c =
    helo_done c.args.ring.now c.args.state.now c.args.link c.args.handshake _ received.Wrong (cc (c.in-Wrong.is, c.in_ok-read_helo.ensures.received, c.as_slice.ensures)) c.break_link.result c.break_link.new.state c.break_link.ensures.ok
