use Rattle.std.proofs.Common.{◌≡◌, ◌∷◌, None, refl, sym, ◌∙◌, ap}
use Rattle.std.specs.Prelude.{is_some}
use Rattle.fwd_outside.specs.declared.happening.Happening.TheVariants as happening
use Rattle.fwd_model.specs.Fact.{Happened}
use Rattle.fwd_model.specs.Clock.{stopped}
use Rattle.fwd_model.specs.StepActions.{step, stops}
use Rattle.fwd_model.proofs.Refinement.{refines_note_then}
use Rattle.fwd_engine.proofs.EventFacts.{represents_after_state_event}
use Rattle.fwd_engine.proofs.dispatch.stop.Goals as goal

pub returns-clause-acts : goal.returns-clause-acts
unfolding step
returns-clause-acts g c others h shows =
    let s = c.args.run.now in
    let fact = Happened happening.Stop in
    let was = ap is_some (sym (c.stopped.ensures s h None shows.state)) ∙ sym c.is_some-stopped.ensures in
    let shown = represents_after_state_event s c.args.parts.now _ h happening.Stop refl refl refl refl (c.stop.ensures.stop s h None shows.state) shows in
    refines_note_then _ _ _ fact h (stops s (stopped s h)) c.stop_once.result (c.stop_once.ensures.acts (stopped s h) was others (fact ∷ h) shown)
