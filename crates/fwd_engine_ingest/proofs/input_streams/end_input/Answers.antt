use Rattle.std.proofs.Common.{◌≡◌, ◌∷◌, true, false, not, List, None, refl, sym, ap, ◌∙◌}
use Rattle.fwd_frames.specs.Lines.{last_line}
use Rattle.fwd_frames.specs.declared.line.Line.{Line}
use Rattle.fwd_outside.specs.Program.{Return}
use Rattle.fwd_outside.specs.declared.happening.Happening.TheVariants as happening
use Rattle.fwd_model.specs.Fact.{History, Standard, Happened}
use Rattle.fwd_model.specs.Settings.{reads_stdin_at}
use Rattle.fwd_model.specs.Streams.{said}
use Rattle.fwd_model.specs.Batches.{batch_of}
use Rattle.fwd_model.specs.Acceptance.{ingests}
use Rattle.fwd_model.proofs.Actions.{stays}
use Rattle.fwd_model.proofs.Refinement.{refines_note_then, refines_at, completes_note_then, completes_idle}
use Rattle.fwd_engine_state.specs.PartsRepresent.{PartsRepresentIdle}
use Rattle.fwd_engine_ingest.proofs.StreamFactSteps.{represents_by_streams, represents_at_end, acts_end}
use Rattle.fwd_engine_ingest.proofs.input_streams.end_input.Goals as goal

pub returns-in_err-lines-clause-acts : goal.returns-in_err-lines-clause-acts
returns-in_err-lines-clause-acts g c others h shows = acts_end c.args.run.now _ _ c.from_residual.result c.from_residual.ensures.0 (_, stays _ _)

pub returns-then-not-reads_standard-clause-acts : goal.returns-then-not-reads_standard-clause-acts
returns-then-not-reads_standard-clause-acts g c others h shows =
    let s = c.args.run.now in
    let ended = Happened (happening.InputEnd c.args.input) in
    let other : reads_stdin_at s c.args.input.0 ≡ false = sym c.reads_standard.ensures ∙ c.if-not-reads_standard.true in
    let quiet : not (reads_stdin_at s c.args.input.0) ≡ true = ap not other in
    let shown = represents_by_streams s c.args.parts.now _ h ended refl refl refl quiet refl refl refl (c.in_ok-lines.ensures.notes s h shows.input_streams) shows in
    rw other (completes_note_then (λ (now : History). PartsRepresentIdle s _ now) _ _ ended h Return (completes_idle (λ (now : History). PartsRepresentIdle s _ now) _ (ended ∷ h) shown))

pub returns-clause-acts : goal.returns-clause-acts
returns-clause-acts g c others h shows =
    let s = c.args.run.now in
    let k = c.args.input.0 in
    let ended = Happened (happening.InputEnd c.args.input) in
    let reads : reads_stdin_at s k ≡ true = sym c.reads_standard.ensures ∙ c.if-not-reads_standard.false in
    let shown = represents_at_end s c.args.parts.now _ h c.args.input refl refl (c.stop.ensures.end c.args.input s h None shows.state reads) (c.in_ok-lines.ensures.notes s h shows.input_streams) shows in
    let lines : c.in_ok-lines.lines ≡ last_line (said s h (Standard k)) = c.in_ok-lines.ensures.lines s h shows.input_streams in
    rw reads
    (refines_note_then (λ _ (now : History). PartsRepresentIdle s c.accept_lines.new.parts now) _ _ ended h (ingests s (batch_of s h k (last_line (said s h (Standard k))))) c.accept_lines.result
    (refines_at (λ _ (now : History). PartsRepresentIdle s c.accept_lines.new.parts now) _ _ (λ (ls : List Line). ingests s (batch_of s h k ls) (ended ∷ h)) c.accept_lines.result c.in_ok-lines.lines (last_line (said s h (Standard k))) lines
    (c.accept_lines.ensures.acts others (ended ∷ h) shown)))
