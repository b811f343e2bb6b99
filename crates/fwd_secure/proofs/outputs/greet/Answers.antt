use Rattle.std.proofs.Common.{sym}
use Rattle.fwd_secure.specs.Keys.{ring_at}
use Rattle.fwd_secure.proofs.RuleSteps.{cut, unasked}
use Rattle.fwd_secure.proofs.RingLookups.{no_ring}
use Rattle.fwd_secure.proofs.OutputSteps.{greets_ring, greets_none}
use Rattle.fwd_secure.proofs.outputs.greet.Goals as goal

pub returns-in_default-clause-calls : goal.returns-in_default-clause-calls
returns-in_default-clause-calls g c =
    greets_none c.args.state.now c.args.link c.args.handshake c.args.bytes.now (ring_at c.args.rings.now c.args.handshake.output.0) _ (no_ring c.ring_at.result _ _ c.ring_at.ensures c.in_default.not-Some)

pub returns-in_err-extend_from_slice-clause-calls : goal.returns-in_err-extend_from_slice-clause-calls
returns-in_err-extend_from_slice-clause-calls g c = cut _ _ _ c.from_residual.result _ c.from_residual.ensures.0 (unasked _ _)

pub greet_at_step-requires : goal.greet_at_step-requires
greet_at_step-requires g c = c.requires c.args.handshake.output.0 c.in-Some.ring.now (sym c.in-Some.ensures)

pub returns-clause-calls : goal.returns-clause-calls
returns-clause-calls g c =
    greets_ring c.args.state.now c.args.link c.args.handshake c.args.bytes.now (ring_at c.args.rings.now c.args.handshake.output.0) _ _ c.in-Some.ring.now _ _ c.in-Some.ensures c.in_ok-extend_from_slice.ensures.ok c.greet_at_step.ensures.calls
