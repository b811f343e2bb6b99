use Rattle.std.proofs.Common.{◌≡◌, ◌∷◌, List, Some, refl}
use Rattle.fwd_frames.specs.declared.line.Line.{Line}
use Rattle.fwd_outside.specs.declared.happening.Happening.TheVariants as happening
use Rattle.fwd_model.specs.Fact.{History, LineStream, Happened}
use Rattle.fwd_model.specs.Streams.{said}
use Rattle.fwd_model.specs.Batches.{completed_lines, batch_of}
use Rattle.fwd_model.specs.Acceptance.{ingests}
use Rattle.fwd_model.specs.InputActions.{accepts_stream}
use Rattle.fwd_model.proofs.Actions.{stays}
use Rattle.fwd_model.proofs.Refinement.{refines_note_then, refines_at}
use Rattle.fwd_engine_state.specs.PartsRepresent.{PartsRepresentIdle}
use Rattle.fwd_engine_ingest.proofs.StreamFactSteps.{represents_by_streams, step_piece, acts_end}
use Rattle.fwd_engine_ingest.proofs.input_streams.receive_lines.Goals as goal

pub returns-in_err-lines-clause-acts : goal.returns-in_err-lines-clause-acts
returns-in_err-lines-clause-acts g c others h shows heard = acts_end c.args.run.now _ _ c.from_residual.result c.from_residual.ensures.0 (_, stays _ _)

pub returns-clause-acts : goal.returns-clause-acts
returns-clause-acts g c others h shows heard =
    let s = c.args.run.now in
    let k = c.args.input.0 in
    let piece = Happened (happening.Piece c.args.input c.args.conn c.args.bytes.now) in
    let shown = represents_by_streams s c.args.parts.now _ h piece refl refl refl refl refl refl refl (c.in_ok-lines.ensures.notes c.args.input s h shows.input_streams heard) shows in
    let lines : c.in_ok-lines.lines ≡ completed_lines (said s h (LineStream c.args.conn.0)) c.args.bytes.now = c.in_ok-lines.ensures.lines s h shows.input_streams in
    rw (step_piece s h c.args.input c.args.conn c.args.bytes.now (Some (LineStream c.args.conn.0)) heard)
    (refines_note_then (λ _ (now : History). PartsRepresentIdle s c.accept_lines.new.parts now) _ _ piece h (accepts_stream s h k c.args.bytes.now (Some (LineStream c.args.conn.0))) c.accept_lines.result
    (refines_at (λ _ (now : History). PartsRepresentIdle s c.accept_lines.new.parts now) _ _ (λ (ls : List Line). ingests s (batch_of s h k ls) (piece ∷ h)) c.accept_lines.result c.in_ok-lines.lines (completed_lines (said s h (LineStream c.args.conn.0)) c.args.bytes.now) lines
    (c.accept_lines.ensures.acts others (piece ∷ h) shown)))
