-- What the parts represent after an event that concerns one of them, or none.
use Rattle.std.proofs.Common.{◌≡◌, ◌∷◌, inl, inr, false, true, None, Result, refl}
use Rattle.std.specs.Result.{IsErr}
use Rattle.std.proofs.lemmas.Bool.{cases_Bool}
use Rattle.fwd_base.specs.declared.ids.InputId.{InputId}
use Rattle.fwd_outside.specs.Program.{bind}
use Rattle.fwd_outside.specs.declared.happening.Happening.{Happening}
use Rattle.fwd_outside.specs.declared.happening.Happening.TheVariants as happening
use Rattle.fwd_settings.specs.declared.settings_types.AllSettings.{AllSettings}
use Rattle.fwd_engine_state.specs.StateRepresents.{StateRepresents, is_not_state_event}
use Rattle.fwd_engine_state.specs.StreamFacts.{is_stream_event}
use Rattle.fwd_model.specs.Fact.{History, Happened}
use Rattle.fwd_model.specs.Settings.{reads_stdin_at}
use Rattle.fwd_model.specs.Clock.{stopped}
use Rattle.fwd_model.specs.StepActions.{step, stops, at_input_end}
use Rattle.fwd_model.specs.CallLogs.{CallLogs, IsBegun}
use Rattle.fwd_model.specs.Refines.{Refines}
use Rattle.fwd_model.proofs.Actions.{begun_bind}
use Rattle.fwd_model.proofs.Refinement.{refines_err}
use Rattle.fwd_engine_ingest.specs.EndOfInput.{ends_input}
use Rattle.fwd_engine_state.specs.PartsRepresent.{PartsRepresentIdle}
use Rattle.fwd_engine_state.specs.declared.parts.Parts.{Parts}
use Rattle.fwd_engine_state.proofs.FactSteps.{represents_after_other_fact, represents_by_state}

-- neither the state nor the input streams
pub represents_after_event : (s : AllSettings) (parts : Parts) (h : History) (brought : Happening) → is_not_state_event s brought ≡ true → is_stream_event brought ≡ false → PartsRepresentIdle s parts h → PartsRepresentIdle s parts (Happened brought ∷ h)
represents_after_event s parts h brought quiet unheard shows = represents_after_other_fact s parts h None None (Happened brought) quiet unheard refl refl refl shows

-- the state alone
pub represents_after_state_event : (s : AllSettings) (old new : Parts) (h : History) (brought : Happening) → new.input_streams ≡ old.input_streams → new.followed_files ≡ old.followed_files → new.store ≡ old.store
    → is_stream_event brought ≡ false → StateRepresents s new.state (Happened brought ∷ h) None → PartsRepresentIdle s old h → PartsRepresentIdle s new (Happened brought ∷ h)
represents_after_state_event s old new h brought hears follows holds unheard state shows = represents_by_state s old new h None None None (Happened brought) hears follows holds unheard refl refl refl state shows

-- ---- the end of an input

-- the rest of standard input, and then a stop
pub end_then : (s : AllSettings) (h : History) (input : InputId) → reads_stdin_at s input.0 ≡ true → step s (happening.InputEnd input) h ≡ bind (ends_input s input h) (stops s (stopped s h))
unfolding step at_input_end
end_then s h input reads = rw reads refl

-- another input has no rest
pub end_alone : (s : AllSettings) (h : History) (input : InputId) → reads_stdin_at s input.0 ≡ false → step s (happening.InputEnd input) h ≡ ends_input s input h
unfolding step at_input_end
end_alone s h input reads = rw reads refl

-- only the first calls were made
pub end_begun : {T E : Type 0} (s : AllSettings) (h : History) (input : InputId) {a b : CallLogs} (Shown : T → History → Type 0) (r : Result T E) → IsErr r → IsBegun a b (ends_input s input h)
    → Refines Shown a b (step s (happening.InputEnd input) h) r
end_begun s h input Shown r is began = elim (cases_Bool (reads_stdin_at s input.0)) [
  | inl reads ↦ rw (end_then s h input reads) (refines_err Shown (bind (ends_input s input h) (stops s (stopped s h))) r is (begun_bind (stops s (stopped s h)) began))
  | inr reads ↦ rw (end_alone s h input reads) (refines_err Shown (ends_input s input h) r is began)
]
