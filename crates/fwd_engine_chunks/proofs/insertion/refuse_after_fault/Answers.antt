use Rattle.std.proofs.Common.{◌≡◌, true, false, ◌∷◌, Some, None, refl}
use Rattle.fwd_outside.specs.Program.{bind}
use Rattle.fwd_model.specs.Fact.{History, Offered, IoFailed, Refused, NotStored}
use Rattle.fwd_model.specs.Notes.{note_then}
use Rattle.fwd_model.specs.CloseActions.{closes_chunk}
use Rattle.fwd_model.specs.Acceptance.{ends_refused, refuses}
use Rattle.fwd_model.proofs.Actions.{fact_noted, begun_bind, begun_trans}
use Rattle.fwd_model.proofs.Refinement.{completes_note_then, completes_idle, refines_err}
use Rattle.fwd_model.specs.Chunks.{next}
use Rattle.fwd_engine_state.specs.StateRepresents.{is_open}
use Rattle.fwd_engine_state.proofs.OtherFacts.{state_after_other_fact as state_stays}
use Rattle.fwd_engine_state.proofs.StreamSteps as input_streams
use Rattle.fwd_engine_state.proofs.FileSteps as followed_files
use Rattle.fwd_engine_state.proofs.OtherStoreFacts.{store_after_other_fact}
use Rattle.fwd_engine_state.specs.PartsRepresent.{PartsRepresentIdle, IsClosing}
use Rattle.fwd_engine_state.proofs.InvariantSteps.{sound_after_fact}
use Rattle.fwd_engine_chunks.specs.BatchOutcome.{StoreIsAhead, failed_history}
use Rattle.fwd_engine_chunks.proofs.StoreOutcome.{RepresentsBatch, given_up_behind, closing_failed}
use Rattle.fwd_engine_chunks.proofs.insertion.refuse_after_fault.Goals as goal

pub returns-in_err-close-clause-acts : goal.returns-in_err-close-clause-acts
returns-in_err-close-clause-acts g c others h b input ahead was_open =
    let s = c.args.run.now in
    let n = c.in-Some.chunk.0 in
    let is_ahead : StoreIsAhead s c.args.parts.now h (failed_history b h (Some c.in-Some.chunk)) = rw c.in-Some.is at ahead in
    let opened : is_open h n ≡ true = rw c.in-Some.is at was_open in
    let offered = Offered n b ∷ h in
    let last = Refused b NotStored ∷ IoFailed ∷ offered in
    let state = c.count_refused.ensures.batch b NotStored input s (IoFailed ∷ offered) None (c.count_fault.ensures.notes s offered None (state_stays s _ h None (Offered n b) refl is_ahead.state)) in
    let closing : IsClosing s _ last n = closing_failed s c.args.parts.now _ h b n is_ahead opened refl refl refl state in
    rw c.in-Some.is
    (refines_err (RepresentsBatch s _) _ c.from_residual.result c.from_residual.ensures.0
    (begun_trans (fact_noted _ IoFailed (λ _. note_then (Refused b NotStored) (IoFailed ∷ offered) (λ (at : History). bind (closes_chunk s n at) ends_refused)))
    (begun_trans (fact_noted _ (Refused b NotStored) (λ _. bind (closes_chunk s n last) ends_refused)) (begun_bind ends_refused (c.in_err-close.ensures.acts others last closing)))))

pub returns-in_ok-close-clause-acts : goal.returns-in_ok-close-clause-acts
returns-in_ok-close-clause-acts g c others h b input ahead was_open =
    let s = c.args.run.now in
    let n = c.in-Some.chunk.0 in
    let is_ahead : StoreIsAhead s c.args.parts.now h (failed_history b h (Some c.in-Some.chunk)) = rw c.in-Some.is at ahead in
    let opened : is_open h n ≡ true = rw c.in-Some.is at was_open in
    let offered = Offered n b ∷ h in
    let last = Refused b NotStored ∷ IoFailed ∷ offered in
    let state = c.count_refused.ensures.batch b NotStored input s (IoFailed ∷ offered) None (c.count_fault.ensures.notes s offered None (state_stays s _ h None (Offered n b) refl is_ahead.state)) in
    let closing : IsClosing s _ last n = closing_failed s c.args.parts.now _ h b n is_ahead opened refl refl refl state in
    rw c.in-Some.is
    (completes_note_then (RepresentsBatch s _ false) _ _ IoFailed offered (λ (at : History). note_then (Refused b NotStored) at (λ (at : History). bind (closes_chunk s n at) ends_refused))
    (completes_note_then (RepresentsBatch s _ false) _ _ (Refused b NotStored) (IoFailed ∷ offered) (λ (at : History). bind (closes_chunk s n at) ends_refused)
    (given_up_behind s _ _ _ (closes_chunk s n last) (c.in_ok-close.ensures.acts others last closing))))

pub returns-in_default-clause-acts : goal.returns-in_default-clause-acts
returns-in_default-clause-acts g c others h b input ahead was_open =
    let s = c.args.run.now in
    let is_ahead : StoreIsAhead s c.args.parts.now h (failed_history b h None) = rw c.in_default.is at ahead in
    let offered = Offered (next h) b ∷ h in
    let last = Refused b NotStored ∷ IoFailed ∷ offered in
    let state = c.count_refused.ensures.batch b NotStored input s (IoFailed ∷ offered) None (c.count_fault.ensures.notes s offered None (state_stays s _ h None (Offered (next h) b) refl is_ahead.state)) in
    let shown : PartsRepresentIdle s _ last = record {
      state = state;
      input_streams = input_streams.streams_after_other_fact s _ (IoFailed ∷ offered) (Refused b NotStored) refl (input_streams.streams_after_other_fact s _ offered IoFailed refl (input_streams.streams_after_other_fact s _ h (Offered (next h) b) refl is_ahead.input_streams));
      followed_files = followed_files.files_after_other_fact s _ (IoFailed ∷ offered) (Refused b NotStored) refl (followed_files.files_after_other_fact s _ offered IoFailed refl (followed_files.files_after_other_fact s _ h (Offered (next h) b) refl is_ahead.followed_files));
      store = store_after_other_fact s _ (IoFailed ∷ offered) (Refused b NotStored) refl (store_after_other_fact s _ offered IoFailed refl is_ahead.store);
      sound = sound_after_fact s (IoFailed ∷ offered) None (Refused b NotStored) refl (sound_after_fact s offered None IoFailed refl (sound_after_fact s h None (Offered (next h) b) refl is_ahead.sound));
    } in
    rw c.in_default.is
    (completes_note_then (RepresentsBatch s _ false) _ _ IoFailed offered (refuses b NotStored)
    (completes_note_then (RepresentsBatch s _ false) _ _ (Refused b NotStored) (IoFailed ∷ offered) ends_refused
    (completes_idle (RepresentsBatch s _ false) _ (record { history = last; taken = false }) (refl, shown))))
