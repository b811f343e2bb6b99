use Rattle.std.proofs.Common.{true, sym, ◌∙◌, arith}
use Rattle.fwd_outside.specs.Loop.{push_outcome}
use Rattle.fwd_secure.proofs.PassedOn.{push_waits, push_passes}
use Rattle.fwd_secure.proofs.CallCounts.{no_cause}
use Rattle.fwd_secure.proofs.rules.push_keyed.Goals as goal

pub returns-then-has_handshake-clause-calls : goal.returns-then-has_handshake-clause-calls
returns-then-has_handshake-clause-calls g c keys =
    push_waits keys c.args.state.now _ c.args.link.0 c.args.bytes.now c.has_handshake.result c.if-has_handshake.true c.has_handshake.ensures

pub returns-then-has_handshake-clause-cause : goal.returns-then-has_handshake-clause-cause
returns-then-has_handshake-clause-cause g c = no_cause _ _ _ (omega arith) (λ fails. fails)

pub returns-clause-calls : goal.returns-clause-calls
returns-clause-calls g c keys =
    push_passes true keys c.args.state.now _ _ c.args.link.0 c.args.bytes.now (push_outcome c.push.result) (λ _. sym c.has_handshake.ensures ∙ c.if-has_handshake.false) c.push.ensures.call_log
