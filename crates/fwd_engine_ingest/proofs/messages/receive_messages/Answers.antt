use Rattle.std.proofs.Common.{◌≡◌, ◌∷◌, Bool, List, Some, refl, sym, subst}
use Rattle.std.specs.Prelude.{is_some}
use Rattle.fwd_outside.specs.declared.happening.Happening.TheVariants as happening
use Rattle.fwd_wire.specs.Message.{MessageContent}
use Rattle.fwd_in_forward.specs.Received.{all_received}
use Rattle.fwd_model.specs.Fact.{History, MessageStream, Happened}
use Rattle.fwd_model.specs.Streams.{said}
use Rattle.fwd_model.specs.Messages.{completed_messages, becomes_malformed}
use Rattle.fwd_model.specs.InputActions.{accepts_stream, accepts_messages}
use Rattle.fwd_model.proofs.Actions.{stays}
use Rattle.fwd_model.proofs.Refinement.{refines_note_then, refines_at}
use Rattle.fwd_engine_state.specs.PartsRepresent.{PartsRepresentIdle}
use Rattle.fwd_engine_ingest.specs.Continuation.{TagsAreShort}
use Rattle.fwd_engine_ingest.proofs.StreamFactSteps.{represents_by_streams, step_piece, acts_end}
use Rattle.fwd_engine_ingest.proofs.TagLengths.{ending_short}
use Rattle.fwd_engine_ingest.proofs.messages.receive_messages.Goals as goal

pub returns-in_err-arrived-clause-acts : goal.returns-in_err-arrived-clause-acts
returns-in_err-arrived-clause-acts g c others h shows heard = acts_end c.args.run.now _ _ c.from_residual.result c.from_residual.ensures.0 (_, stays _ _)

pub returns-clause-acts : goal.returns-clause-acts
returns-clause-acts g c others h shows heard =
    let s = c.args.run.now in
    let k = c.args.input.0 in
    let conn = c.args.conn.0 in
    let arrived = c.in_ok-arrived.arrived in
    let piece = Happened (happening.Piece c.args.input c.args.conn c.args.bytes.now) in
    let shown = represents_by_streams s c.args.parts.now _ h piece refl refl refl refl refl refl refl (c.in_ok-arrived.ensures.notes c.args.input s h shows.input_streams heard) shows in
    let messages : all_received arrived.messages ≡ completed_messages (said s h (MessageStream conn)) c.args.bytes.now = c.in_ok-arrived.ensures.messages s h shows.input_streams in
    let fault : is_some arrived.fault ≡ becomes_malformed (said s h (MessageStream conn)) c.args.bytes.now = c.in_ok-arrived.ensures.fault s h shows.input_streams in
    let short : TagsAreShort (all_received arrived.messages) = subst TagsAreShort (sym messages) (ending_short (said s h (MessageStream conn)) c.args.bytes.now) in
    rw (step_piece s h c.args.input c.args.conn c.args.bytes.now (Some (MessageStream conn)) heard)
    (refines_note_then (λ _ (now : History). PartsRepresentIdle s c.receive_all.new.parts now) _ _ piece h (accepts_stream s h k c.args.bytes.now (Some (MessageStream conn))) c.receive_all.result
    (refines_at (λ _ (now : History). PartsRepresentIdle s c.receive_all.new.parts now) _ _ (λ (b : Bool). accepts_messages s k conn b (completed_messages (said s h (MessageStream conn)) c.args.bytes.now) (piece ∷ h)) c.receive_all.result (is_some arrived.fault) (becomes_malformed (said s h (MessageStream conn)) c.args.bytes.now) fault
    (refines_at (λ _ (now : History). PartsRepresentIdle s c.receive_all.new.parts now) _ _ (λ (ms : List MessageContent). accepts_messages s k conn (is_some arrived.fault) ms (piece ∷ h)) c.receive_all.result (all_received arrived.messages) (completed_messages (said s h (MessageStream conn)) c.args.bytes.now) messages
    (c.receive_all.ensures.acts short others (piece ∷ h) shown))))
