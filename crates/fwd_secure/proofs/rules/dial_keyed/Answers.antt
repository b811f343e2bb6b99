use Rattle.std.proofs.Common.{not, true, Some, None, ap, ◌∙◌}
use Rattle.fwd_secure.specs.Keys.{ring_at}
use Rattle.fwd_secure.proofs.RingLookups.{ring_there}
use Rattle.fwd_secure.proofs.EventCalls.{dial_answered, dial_unanswered, dialed_refused, dialed_keyed}
use Rattle.fwd_secure.proofs.rules.dial_keyed.Goals as goal

pub returns-in-Ok-clause-calls : goal.returns-in-Ok-clause-calls
returns-in-Ok-clause-calls g c =
    dial_answered c.args.keys.now c.args.state.now c.args.output.0 c.args.tag.now _ _ _ (Some c.in-Link.link.0) (Some (Some c.in-Link.link.0, c.begin_handshake.new.state)) c.in-Link.ensures.call_log
    (dialed_keyed c.args.state.now c.args.output.0 _ _ (ring_at c.args.keys.now.outputs c.args.output.0) c.in-Link.link.0 (Some (Some c.in-Link.link.0, c.begin_handshake.new.state))
    (ring_there c.ring_at.result _ _ true c.ring_at.ensures (c.is_none.ensures ∙ ap not c.if-is_none.false)) c.in-Ok.ensures.calls)

pub returns-in-Err-clause-calls : goal.returns-in-Err-clause-calls
returns-in-Err-clause-calls g c =
    dial_answered c.args.keys.now c.args.state.now c.args.output.0 c.args.tag.now _ _ _ (Some c.in-Link.link.0) None c.in-Link.ensures.call_log
    (dialed_keyed c.args.state.now c.args.output.0 _ _ (ring_at c.args.keys.now.outputs c.args.output.0) c.in-Link.link.0 None
    (ring_there c.ring_at.result _ _ true c.ring_at.ensures (c.is_none.ensures ∙ ap not c.if-is_none.false)) c.in-Err.ensures.calls)

pub returns-in-Refused-clause-calls : goal.returns-in-Refused-clause-calls
returns-in-Refused-clause-calls g c =
    dial_answered c.args.keys.now c.args.state.now c.args.output.0 c.args.tag.now _ _ _ None (Some (None, c.args.state.now)) c.in-Refused.ensures.call_log
    (dialed_refused c.args.state.now c.args.output.0 _ (ring_at c.args.keys.now.outputs c.args.output.0))

pub returns-in-Memory-clause-calls : goal.returns-in-Memory-clause-calls
returns-in-Memory-clause-calls g c = dial_unanswered c.args.keys.now c.args.state.now c.args.output.0 c.args.tag.now _ _ c.in-Memory.ensures.call_log
