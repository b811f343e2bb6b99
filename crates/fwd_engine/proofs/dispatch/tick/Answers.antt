use Rattle.std.proofs.Common.{◌≡◌, Bool, ◌∷◌, None, refl, sym}
use Rattle.fwd_outside.specs.declared.happening.Happening.TheVariants as happening
use Rattle.fwd_model.specs.Fact.{History, Happened}
use Rattle.fwd_model.specs.Clock.{is_close_due}
use Rattle.fwd_model.specs.InputActions.{polls_all}
use Rattle.fwd_model.specs.StepActions.{closes_and_dispatches, ticks, step}
use Rattle.fwd_model.specs.CallLogs.{CallLogs}
use Rattle.fwd_model.proofs.Actions.{fact_noted, begun_trans, begun_bind}
use Rattle.fwd_model.proofs.Refinement.{refines_bind, refines_err, refines_note_then, refines_at}
use Rattle.fwd_engine_state.specs.RefinesAction.{with_all}
use Rattle.fwd_engine_state.specs.PartsRepresent.{PartsRepresentIdle}
use Rattle.fwd_engine.proofs.EventFacts.{represents_after_state_event}
use Rattle.fwd_engine.proofs.dispatch.tick.Goals as goal

pub returns-in_err-poll_inputs-clause-acts : goal.returns-in_err-poll_inputs-clause-acts
unfolding step ticks
returns-in_err-poll_inputs-clause-acts g c others h shows =
    let s = c.args.run.now in
    let fact = Happened (happening.Tick c.args.now) in
    let w : CallLogs = record others { loop = g.L.Loop.call_log c.args.outside.now } in
    let a : CallLogs = with_all (g.L.Loop.call_log c.args.outside.now) (g.D.Disk.call_log c.args.disk.now) (g.F.Files.call_log c.args.files.now) others in
    let shown = represents_after_state_event s c.args.parts.now _ h (happening.Tick c.args.now) refl refl refl refl (c.advance_clock-closing.ensures.notes s h None shows.state (sym c.flush_ms.ensures)) shows in
    refines_err _ _ c.from_residual.result c.from_residual.ensures.0
    (begun_trans (fact_noted a fact _) (begun_bind (closes_and_dispatches s (is_close_due s h c.args.now)) (c.in_err-poll_inputs.ensures.acts w (fact ∷ h) shown)))

pub returns-clause-acts : goal.returns-clause-acts
unfolding step ticks
returns-clause-acts g c others h shows =
    let s = c.args.run.now in
    let fact = Happened (happening.Tick c.args.now) in
    let w : CallLogs = record others { loop = g.L.Loop.call_log c.args.outside.now } in
    let v = λ (files : _). record others { files = files } in
    let shown = represents_after_state_event s c.args.parts.now _ h (happening.Tick c.args.now) refl refl refl refl (c.advance_clock-closing.ensures.notes s h None shows.state (sym c.flush_ms.ensures)) shows in
    let closes = c.advance_clock-closing.ensures.closing s h None shows.state in
    refines_note_then _ _ _ fact h (ticks s (is_close_due s h c.args.now)) c.close_and_dispatch.result
    (refines_bind _ _ _ (polls_all s (fact ∷ h)) (closes_and_dispatches s (is_close_due s h c.args.now)) c.close_and_dispatch.result (c.in_ok-poll_inputs.ensures.acts w (fact ∷ h) shown)
    (λ now showing. refines_at _ _ _ (λ (b : Bool). closes_and_dispatches s b now) c.close_and_dispatch.result _ _ closes (c.close_and_dispatch.ensures.acts (v _) now showing)))
