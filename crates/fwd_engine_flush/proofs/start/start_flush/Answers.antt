use Rattle.std.proofs.Common.{◌≡◌, ◌∷◌, List, [], Some, None, refl, sym, ◌∙◌, ap}
use Rattle.std.specs.Option.{option_map_or}
use Rattle.fwd_base.specs.declared.ids.OutputId.{OutputId}
use Rattle.fwd_event.specs.declared.event.Event.{Event}
use Rattle.fwd_event.specs.Event.{AreEvents}
use Rattle.fwd_flush.specs.FlushProgram.{starts, delivery as delivery_of}
use Rattle.fwd_table.specs.Rows.{row_at}
use Rattle.fwd_table.specs.Row.{Row}
use Rattle.fwd_payload.specs.Reader.{wants, judges}
use Rattle.fwd_outside.specs.Program.{bind}
use Rattle.fwd_model.specs.Fact.{OnRoute, FlushStarted}
use Rattle.fwd_model.specs.DeviceActions.{on_loop}
use Rattle.fwd_model.specs.Settings.{output_at}
use Rattle.fwd_model.specs.Payloads.{delivery, delivery_at, tag_of_chunk}
use Rattle.fwd_model.specs.FlushActions.{notes_calls}
use Rattle.fwd_model.proofs.Actions.{stays, leads_inside, begun_bind, begun_trans, fact_noted}
use Rattle.fwd_model.proofs.DeviceActions.{loop_leads}
use Rattle.fwd_model.proofs.Refinement.{completes_idle, refines_after, refines_err, refines_note_then, loop_begun}
use Rattle.fwd_engine_state.specs.Views.{route_of}
use Rattle.fwd_engine_state.specs.declared.flush_attempts.FlushAttempt.{FlushAttempt}
use Rattle.fwd_engine_state.specs.StateRepresents.{IsFlightOf}
use Rattle.fwd_engine_state.proofs.IdleRoutes.{idle_has}
use Rattle.fwd_engine_state.specs.RefinesAction.{with_both}
use Rattle.fwd_engine_state.proofs.FactSteps.{represents_by_state}
use Rattle.fwd_engine_flush.proofs.ContentReads.{tag_there, encoding_begins, no_encoding_waits}
use Rattle.fwd_engine_flush.proofs.LinkEvents.{attempt_advances, begins_by, represents_taken_out}
use Rattle.fwd_engine_flush.proofs.start.start_flush.Goals as goal

pub returns-in_err-flush-clause-acts : goal.returns-in_err-flush-clause-acts
returns-in_err-flush-clause-acts g c others h shows idle =
    refines_err _ _ c.from_residual.result c.from_residual.ensures.0 (_, stays (with_both (g.L.Loop.call_log c.args.outside.now) (g.D.Disk.call_log c.args.disk.now) others) _)

pub returns-in_default-clause-acts : goal.returns-in_default-clause-acts
returns-in_default-clause-acts g c others h shows idle =
    let none : (events : List Event) → AreEvents events c.args.content.now → ⊥ = rw c.in_default.is at c.in_ok-flush.ensures.flush in
    rw (no_encoding_waits c.args.run.now (route_of c.args.route) h c.args.content.now none)
    (completes_idle _ _ h (represents_taken_out c.args.run.now _ _ h None None refl refl refl (c.count_damaged.ensures.keeps c.args.run.now h None shows.state) shows))

pub returns-in_err-poll-clause-acts : goal.returns-in_err-poll-clause-acts
returns-in_err-poll-clause-acts g c others h shows idle =
    let s = c.args.run.now in
    let r = route_of c.args.route in
    let content = c.args.content.now in
    let encoded = rw c.in-Some.is at c.in_ok-flush.ensures.flush in
    let events = encoded.0 in
    let flush = c.in-Some.flush in
    let made = encoded.2 s h None shows.state refl idle in
    let tag : c.tag_of-tag.result.now ≡ tag_of_chunk h r.chunk =
    c.tag_of-tag.ensures ∙ ap (λ (rows : List Row). option_map_or (λ (row : Row). row.tag) (row_at c.args.route.chunk rows) []) (c.table.ensures s h None shows.state)
    ∙ tag_there s h r.chunk shows.state.numbers (idle_has s h r idle) in
    let delivers : delivery_of wants judges flush ≡ delivery s (OnRoute r (FlushStarted events) ∷ h) r =
    made.delivers ∙ ap (delivery_at (output_at s r.output) (tag_of_chunk h r.chunk) r) (sym (c.lemma_begun_events.ensures.events h r events)) in
    let act = starts (delivery_of wants judges flush) flush.output.0 c.tag_of-tag.result.now flush.progress in
    let begun = begins_by s r events h (delivery_of wants judges flush) flush.output.0 c.tag_of-tag.result.now flush.progress delivers (ap (λ (o : OutputId). o.0) made.output) tag made.progress in
    let w = with_both (g.L.Loop.call_log c.args.outside.now) (g.D.Disk.call_log c.args.disk.now) others in
    let b = c.in_err-poll.ensures.calls in
    rw (encoding_begins s r h content events encoded.1, begun)
    (refines_err _ _ c.from_residual-in_err-poll.result c.from_residual-in_err-poll.ensures.0
    (begun_trans (fact_noted w (OnRoute r (FlushStarted events)) _)
    (begun_bind (λ progress. notes_calls s r 0 progress (OnRoute r (FlushStarted events) ∷ h)) (loop_begun w _ act (b.0, record { entries = b.1.entries; grew = b.1.grew; way = b.1.way })))))

pub returns-clause-acts : goal.returns-clause-acts
returns-clause-acts g c others h shows idle =
    let s = c.args.run.now in
    let r = route_of c.args.route in
    let content = c.args.content.now in
    let encoded = rw c.in-Some.is at c.in_ok-flush.ensures.flush in
    let events = encoded.0 in
    let flush = c.in-Some.flush in
    let made = encoded.2 s h None shows.state refl idle in
    let tag : c.tag_of-tag.result.now ≡ tag_of_chunk h r.chunk =
    c.tag_of-tag.ensures ∙ ap (λ (rows : List Row). option_map_or (λ (row : Row). row.tag) (row_at c.args.route.chunk rows) []) (c.table.ensures s h None shows.state)
    ∙ tag_there s h r.chunk shows.state.numbers (idle_has s h r idle) in
    let delivers : delivery_of wants judges flush ≡ delivery s (OnRoute r (FlushStarted events) ∷ h) r =
    made.delivers ∙ ap (delivery_at (output_at s r.output) (tag_of_chunk h r.chunk) r) (sym (c.lemma_begun_events.ensures.events h r events)) in
    let act = starts (delivery_of wants judges flush) flush.output.0 c.tag_of-tag.result.now flush.progress in
    let begun = begins_by s r events h (delivery_of wants judges flush) flush.output.0 c.tag_of-tag.result.now flush.progress delivers (ap (λ (o : OutputId). o.0) made.output) tag made.progress in
    let w = with_both (g.L.Loop.call_log c.args.outside.now) (g.D.Disk.call_log c.args.disk.now) others in
    let out = represents_by_state s _ _ h None (Some r) None (OnRoute r (FlushStarted events)) refl refl refl refl refl refl refl (c.lemma_begun_route_is_out.ensures s c.args.parts.now.state h r events shows.state idle) shows in
    let calls = c.in_ok-poll.ensures.calls in
    let new : FlushAttempt = record { route = c.args.route; flush = flush } in
    let first : IsFlightOf s (OnRoute r (FlushStarted events) ∷ h) new r =
    (refl, made.output, delivers, c.lemma_idle_route_is_pending.ensures.begun s c.args.parts.now.state h None r events shows.state idle, c.lemma_idle_route_is_closed.ensures s c.args.parts.now.state h None r shows.state idle) in
    let of = attempt_advances s (OnRoute r (FlushStarted events) ∷ h) new r _ c.in_ok-poll.ensures.same first in
    rw (encoding_begins s r h content events encoded.1, begun)
    (refines_note_then _ _ _ (OnRoute r (FlushStarted events)) h (λ at. bind (on_loop act) (λ progress. notes_calls s r 0 progress at)) c.record_progress.result
    (refines_after _ _ _ _ c.record_progress.result (leads_inside (λ progress. notes_calls s r 0 progress (OnRoute r (FlushStarted events) ∷ h)) (loop_leads w _ act _ calls.0))
    (c.record_progress.ensures.acts others (OnRoute r (FlushStarted events) ∷ h) out (of, calls.1))))
