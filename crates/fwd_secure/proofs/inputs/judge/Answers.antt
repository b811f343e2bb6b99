use Rattle.std.proofs.Common.{◌∙◌}
use Rattle.fwd_handshake.specs.declared.received.Received.TheVariants as received
use Rattle.fwd_secure.proofs.RuleSteps.{cut, unasked, by_program, is_returned}
use Rattle.fwd_secure.proofs.InputSteps.{judges_as, right_answers}
use Rattle.fwd_secure.proofs.inputs.judge.Goals as goal

pub returns-in_err-extend_from_slice-clause-calls : goal.returns-in_err-extend_from_slice-clause-calls
returns-in_err-extend_from_slice-clause-calls g c = cut _ _ _ c.from_residual.result _ c.from_residual.ensures.0 (unasked _ _)

pub returns-in_err-nonce-clause-calls : goal.returns-in_err-nonce-clause-calls
returns-in_err-nonce-clause-calls g c = cut _ _ _ c.from_residual-in_err-nonce.result _ c.from_residual-in_err-nonce.ensures.0 (unasked _ _)

pub returns-in_err-read_ping-clause-calls : goal.returns-in_err-read_ping-clause-calls
returns-in_err-read_ping-clause-calls g c = cut _ _ _ c.from_residual-in_err-read_ping.result _ c.from_residual-in_err-read_ping.ensures.0 (unasked _ _)

pub returns-in_err-hold-in-More-clause-calls : goal.returns-in_err-hold-in-More-clause-calls
returns-in_err-hold-in-More-clause-calls g c = cut _ _ _ c.from_residual-in_err-hold-in-More.result _ c.from_residual-in_err-hold-in-More.ensures.0 (unasked _ _)

pub returns-in_err-message-in-Right-clause-calls : goal.returns-in_err-message-in-Right-clause-calls
returns-in_err-message-in-Right-clause-calls g c = cut _ _ _ c.from_residual-in_err-message-in-Right.result _ c.from_residual-in_err-message-in-Right.ensures.0 (unasked _ _)

pub returns-in_err-rest-in-Right-clause-calls : goal.returns-in_err-rest-in-Right-clause-calls
returns-in_err-rest-in-Right-clause-calls g c = cut _ _ _ c.from_residual-in_err-rest-in-Right.result _ c.from_residual-in_err-rest-in-Right.ensures.0 (unasked _ _)

pub pong-requires-clause-salt : goal.pong-requires-clause-salt
pong-requires-clause-salt g c = let short = rw c.in-Right.is at c.in_ok-read_ping.ensures.short in rw c.as_slice-in-Right.ensures short

pub returns-in_ok-hold-in-More-clause-calls : goal.returns-in_ok-hold-in-More-clause-calls
returns-in_ok-hold-in-More-clause-calls g c =
    is_returned _ _ _
    (judges_as c.args.ring.now c.args.state.now c.args.held.input c.args.conn c.args.piece.now c.args.held c.as_slice-2.result.now received.More (cc (c.as_slice-2.ensures, c.in_ok-extend_from_slice.ensures.ok)) (cc (c.in-More.is, c.in_ok-read_ping.ensures.received, c.as_slice.ensures, c.in_ok-nonce.ensures)) ∙ cc (c.in_ok-hold-in-More.ensures.ok, c.in_ok-extend_from_slice.ensures.ok))

pub returns-in_ok-rest-in-Right-clause-calls : goal.returns-in_ok-rest-in-Right-clause-calls
returns-in_ok-rest-in-Right-clause-calls g c =
    by_program _ _ _ _ _
    (judges_as c.args.ring.now c.args.state.now c.args.held.input c.args.conn c.args.piece.now c.args.held c.as_slice-2.result.now (received.Right c.in-Right.len c.in-Right.content) (cc (c.as_slice-2.ensures, c.in_ok-extend_from_slice.ensures.ok)) (cc (c.in-Right.is, c.in_ok-read_ping.ensures.received, c.as_slice.ensures, c.in_ok-nonce.ensures))
    ∙ right_answers c.args.ring.now c.args.state.now c.args.held.input c.args.conn c.args.piece.now c.args.held c.in-Right.len c.in-Right.content _ _ (cc (c.in_ok-message-in-Right.ensures, c.as_slice.ensures, c.in_ok-nonce.ensures)) (cc (c.in_ok-rest-in-Right.ensures, c.saturating_sub.ensures, c.len-before.ensures)))
    c.answer_ping.ensures.calls

pub returns-in-Wrong-clause-calls : goal.returns-in-Wrong-clause-calls
returns-in-Wrong-clause-calls g c = by_program _ _ _ _ _ (judges_as c.args.ring.now c.args.state.now c.args.held.input c.args.conn c.args.piece.now c.args.held c.as_slice-2.result.now received.Wrong (cc (c.as_slice-2.ensures, c.in_ok-extend_from_slice.ensures.ok)) (cc (c.in-Wrong.is, c.in_ok-read_ping.ensures.received, c.as_slice.ensures, c.in_ok-nonce.ensures))) (c.drop_conn.ensures.calls c.args.state.now)
