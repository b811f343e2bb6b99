use Rattle.std.proofs.Common.{true, false, refl, sym, ◌∙◌}
use Rattle.fwd_secure.specs.Keys.{ring_at}
use Rattle.fwd_secure.proofs.RuleSteps.{cut, unasked}
use Rattle.fwd_secure.proofs.RingLookups.{ring_there}
use Rattle.fwd_secure.proofs.EventCalls.{joined_keyed, joined_unkeyed}
use Rattle.fwd_secure.proofs.rules.bring_joined.Goals as goal

pub returns-then-is_some-clause-calls : goal.returns-then-is_some-clause-calls
returns-then-is_some-clause-calls g c =
    joined_keyed c.args.state.now c.args.input c.args.conn _ _ (ring_at c.args.keys.now.inputs c.args.input.0) _
    (ring_there c.ring_at.result _ _ true c.ring_at.ensures (sym c.is_some.ensures ∙ c.if-is_some.true)) c.join.ensures.calls

pub returns-then-not-listens-clause-calls : goal.returns-then-not-listens-clause-calls
returns-then-not-listens-clause-calls g c =
    joined_unkeyed c.args.state.now c.args.input c.args.conn _ (ring_at c.args.keys.now.inputs c.args.input.0) _ false
    (ring_there c.ring_at.result _ _ false c.ring_at.ensures (sym c.is_some.ensures ∙ c.if-is_some.false)) (sym c.listens.ensures ∙ c.if-not-listens.true) refl

pub returns-in_err-enter-clause-calls : goal.returns-in_err-enter-clause-calls
returns-in_err-enter-clause-calls g c = cut _ _ _ c.from_residual.result _ c.from_residual.ensures.0 (unasked _ _)

pub returns-clause-calls : goal.returns-clause-calls
returns-clause-calls g c =
    joined_unkeyed c.args.state.now c.args.input c.args.conn _ (ring_at c.args.keys.now.inputs c.args.input.0) _ true
    (ring_there c.ring_at.result _ _ false c.ring_at.ensures (sym c.is_some.ensures ∙ c.if-is_some.false)) (sym c.listens.ensures ∙ c.if-not-listens.false) c.in_ok-enter.ensures.ok
