use Rattle.std.proofs.Common.{◌≡◌, ◌∷◌, true, false, None, refl, sym, ◌∙◌, ap}
use Rattle.std.specs.Prelude.{is_some}
use Rattle.fwd_outside.specs.declared.happening.Happening.TheVariants as happening
use Rattle.fwd_model.specs.Fact.{Happened, Standard}
use Rattle.fwd_model.specs.Clock.{stopped}
use Rattle.fwd_model.specs.Batches.{end_batch}
use Rattle.fwd_model.specs.Settings.{reads_stdin_at}
use Rattle.fwd_model.specs.StepActions.{step, stops, at_input_end}
use Rattle.fwd_model.specs.CallLogs.{CallLogs}
use Rattle.fwd_model.proofs.Actions.{begun_bind}
use Rattle.fwd_model.proofs.Refinement.{refines_bind, refines_err}
use Rattle.fwd_engine_ingest.specs.EndOfInput.{ends_input}
use Rattle.fwd_engine.proofs.EventFacts.{end_then, end_alone, end_begun}
use Rattle.fwd_engine.proofs.dispatch.finish.Goals as goal

pub returns-in_err-end_input-clause-acts : goal.returns-in_err-end_input-clause-acts
returns-in_err-end_input-clause-acts g c others h shows =
    let s = c.args.run.now in
    let w : CallLogs = record others { loop = g.L.Loop.call_log c.args.outside.now } in
    end_begun s h c.args.input _ c.from_residual.result c.from_residual.ensures.0 (c.in_err-end_input.ensures.acts w h shows)

pub returns-then-reads_standard-clause-acts : goal.returns-then-reads_standard-clause-acts
returns-then-reads_standard-clause-acts g c others h shows =
    let s = c.args.run.now in
    let w : CallLogs = record others { loop = g.L.Loop.call_log c.args.outside.now } in
    let was = ap is_some (sym (c.stopped.ensures s h None shows.state)) ∙ sym c.is_some-stopped.ensures in
    let reads : reads_stdin_at s c.args.input.0 ≡ true = sym c.reads_standard.ensures ∙ c.if-reads_standard.true in
    rw (end_then s h c.args.input reads)
    (refines_bind _ _ _ (ends_input s c.args.input h) (stops s (stopped s h)) c.stop_once.result (c.in_ok-end_input.ensures.acts w h shows)
    (λ now showing. c.stop_once.ensures.acts (stopped s h) was others now showing))

pub returns-else-reads_standard-clause-acts : goal.returns-else-reads_standard-clause-acts
returns-else-reads_standard-clause-acts g c others h shows =
    let s = c.args.run.now in
    let w : CallLogs = record others { loop = g.L.Loop.call_log c.args.outside.now } in
    let reads : reads_stdin_at s c.args.input.0 ≡ false = sym c.reads_standard.ensures ∙ c.if-reads_standard.false in
    rw (end_alone s h c.args.input reads) (c.in_ok-end_input.ensures.acts w h shows)
