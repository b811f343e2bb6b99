use Rattle.std.proofs.Common.{None}
use Rattle.fwd_secure.specs.Inputs.{challenges}
use Rattle.fwd_secure.proofs.RuleSteps.{cut}
use Rattle.fwd_secure.proofs.InputSteps.{no_words, no_helo, helo_unanswered, helo_answered, helo_taken, helo_in_vain}
use Rattle.fwd_secure.proofs.inputs.challenge.Goals as goal

pub returns-in_err-nonce-clause-calls : goal.returns-in_err-nonce-clause-calls
returns-in_err-nonce-clause-calls g c =
    cut _ _ (challenges c.args.state.now c.args.input c.args.conn) c.from_residual.result _ c.from_residual.ensures.0 (no_words _ _ c.args.state.now c.args.input c.args.conn c.in_err-nonce.ensures.calls)

pub returns-in_err-nonce_bytes-clause-calls : goal.returns-in_err-nonce_bytes-clause-calls
returns-in_err-nonce_bytes-clause-calls g c =
    cut _ _ (challenges c.args.state.now c.args.input c.args.conn) c.from_residual-in_err-nonce_bytes.result _ c.from_residual-in_err-nonce_bytes.ensures.0 (no_helo _ _ c.args.state.now c.args.input c.args.conn c.in_ok-nonce.nonce c.in_ok-nonce.ensures.calls)

pub returns-in_err-message-clause-calls : goal.returns-in_err-message-clause-calls
returns-in_err-message-clause-calls g c =
    cut _ _ (challenges c.args.state.now c.args.input c.args.conn) c.from_residual-in_err-message.result _ c.from_residual-in_err-message.ensures.0 (no_helo _ _ c.args.state.now c.args.input c.args.conn c.in_ok-nonce.nonce c.in_ok-nonce.ensures.calls)

pub returns-in_err-hold-in-Taken-clause-calls : goal.returns-in_err-hold-in-Taken-clause-calls
returns-in_err-hold-in-Taken-clause-calls g c =
    cut _ _ (challenges c.args.state.now c.args.input c.args.conn) c.from_residual-in_err-hold-in-Taken.result _ c.from_residual-in_err-hold-in-Taken.ensures.0
    (helo_in_vain _ _ c.args.state.now c.args.input c.args.conn c.in_ok-nonce.nonce c.in_ok-nonce.ensures.calls _ _ (cc (c.as_slice.ensures, c.as_slice-2.ensures, c.in_ok-message.ensures, c.in_ok-nonce_bytes.ensures)) c.in-Taken.ensures.call_log)

pub returns-in-Taken-clause-calls : goal.returns-in-Taken-clause-calls
returns-in-Taken-clause-calls g c =
    helo_taken _ _ c.args.state.now c.args.input c.args.conn c.in_ok-nonce.nonce c.in_ok-nonce.ensures.calls _ _ (cc (c.as_slice.ensures, c.as_slice-2.ensures, c.in_ok-message.ensures, c.in_ok-nonce_bytes.ensures)) _
    (cc (c.in_ok-hold-in-Taken.ensures.ok, c.new-received.ensures)) c.in-Taken.ensures.call_log

pub returns-in-Broken-clause-calls : goal.returns-in-Broken-clause-calls
returns-in-Broken-clause-calls g c =
    helo_answered _ _ c.args.state.now c.args.input c.args.conn c.in_ok-nonce.nonce c.in_ok-nonce.ensures.calls _ _ (cc (c.as_slice.ensures, c.as_slice-2.ensures, c.in_ok-message.ensures, c.in_ok-nonce_bytes.ensures)) _ None _ c.in-Broken.ensures.call_log
    (c.drop_conn.ensures.calls c.args.state.now)

pub returns-clause-calls : goal.returns-clause-calls
returns-clause-calls g c =
    helo_unanswered _ _ c.args.state.now c.args.input c.args.conn c.in_ok-nonce.nonce c.in_ok-nonce.ensures.calls _ c.as_slice-2.result.now (cc (c.as_slice.ensures, c.as_slice-2.ensures, c.in_ok-message.ensures, c.in_ok-nonce_bytes.ensures)) c.in-Memory.ensures.call_log
