use Rattle.std.proofs.Common.{◌≡◌, ◌∷◌, Some, None, refl, sym, ap, ◌∙◌}
use Rattle.fwd_outside.specs.declared.happening.Happening.TheVariants as happening
use Rattle.fwd_model.specs.Fact.{History, LineStream, MessageStream, Standard, Happened}
use Rattle.fwd_model.specs.Streams.{stream_of}
use Rattle.fwd_model.specs.InputActions.{accepts_stream}
use Rattle.fwd_model.proofs.Refinement.{completes_note_then, completes_idle}
use Rattle.fwd_engine_state.proofs.StreamSteps.{streams_after_unread_bytes}
use Rattle.fwd_engine_state.specs.StreamsRepresent.{stream_of_kind}
use Rattle.fwd_engine_state.specs.PartsRepresent.{PartsRepresentIdle}
use Rattle.fwd_engine_ingest.proofs.StreamFactSteps.{represents_by_streams, step_piece}
use Rattle.fwd_engine_ingest.proofs.input_streams.receive_bytes.Goals as goal

pub returns-in-Nobody-clause-acts : goal.returns-in-Nobody-clause-acts
returns-in-Nobody-clause-acts g c others h shows =
    let s = c.args.run.now in
    let piece = Happened (happening.Piece c.args.input c.args.conn c.args.bytes.now) in
    let heard : stream_of s h c.args.input.0 c.args.conn.0 ≡ None =
    sym (c.stream.ensures s h shows.input_streams c.input.ensures) ∙ ap (stream_of_kind c.args.input.0 c.args.conn.0) c.in-Nobody.is in
    let shown = represents_by_streams s c.args.parts.now c.args.parts.now h piece refl refl refl refl refl refl refl (streams_after_unread_bytes s c.args.parts.now.input_streams h c.args.input c.args.conn c.args.bytes.now heard shows.input_streams) shows in
    rw (step_piece s h c.args.input c.args.conn c.args.bytes.now None heard)
    (completes_note_then (λ (now : History). PartsRepresentIdle s c.args.parts.now now) _ _ piece h (accepts_stream s h c.args.input.0 c.args.bytes.now None) (completes_idle (λ (now : History). PartsRepresentIdle s c.args.parts.now now) _ (piece ∷ h) shown))

pub returns-in-Lines-clause-acts : goal.returns-in-Lines-clause-acts
returns-in-Lines-clause-acts g c others h shows =
    let s = c.args.run.now in
    let heard : stream_of s h c.args.input.0 c.args.conn.0 ≡ Some (LineStream c.args.conn.0) =
    sym (c.stream.ensures s h shows.input_streams c.input.ensures) ∙ ap (stream_of_kind c.args.input.0 c.args.conn.0) c.in-Lines.is in
    c.receive_lines.ensures.acts (record others { loop = g.L.Loop.call_log c.args.outside.now }) h shows heard

pub returns-in-Standard-clause-acts : goal.returns-in-Standard-clause-acts
returns-in-Standard-clause-acts g c others h shows =
    let s = c.args.run.now in
    let heard : stream_of s h c.args.input.0 c.args.conn.0 ≡ Some (Standard c.args.input.0) =
    sym (c.stream.ensures s h shows.input_streams c.input.ensures) ∙ ap (stream_of_kind c.args.input.0 c.args.conn.0) c.in-Standard.is in
    c.receive_stdin.ensures.acts (record others { loop = g.L.Loop.call_log c.args.outside.now }) h shows heard

pub returns-in-Messages-clause-acts : goal.returns-in-Messages-clause-acts
returns-in-Messages-clause-acts g c others h shows =
    let s = c.args.run.now in
    let heard : stream_of s h c.args.input.0 c.args.conn.0 ≡ Some (MessageStream c.args.conn.0) =
    sym (c.stream.ensures s h shows.input_streams c.input.ensures) ∙ ap (stream_of_kind c.args.input.0 c.args.conn.0) c.in-Messages.is in
    c.receive_messages.ensures.acts others h shows heard
