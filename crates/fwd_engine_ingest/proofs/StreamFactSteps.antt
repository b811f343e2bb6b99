-- What the parts represent after a fact about input streams, and the actions that begin with such a fact.
use Rattle.std.proofs.Common.{◌≡◌, ℕ, refl, Bool, true, false, List, ◌∷◌, Option, None, Result, Ok, Err, OnOk}
use Rattle.fwd_base.specs.declared.ids.ConnId.{ConnId}
use Rattle.fwd_base.specs.declared.ids.InputId.{InputId}
use Rattle.fwd_outside.specs.declared.happening.Happening.TheVariants as happening
use Rattle.fwd_settings.specs.declared.settings_types.AllSettings.{AllSettings}
use Rattle.fwd_model.specs.Fact.{Fact, History, Stream, Happened}
use Rattle.std.specs.Result.{IsErr}
use Rattle.fwd_model.specs.Trace.{Action}
use Rattle.fwd_model.specs.CallLogs.{CallLogs, IsBegun}
use Rattle.fwd_model.specs.Notes.{note_then, note}
use Rattle.fwd_model.specs.Refines.{Refines}
use Rattle.fwd_model.specs.Streams.{stream_of}
use Rattle.fwd_model.specs.InputActions.{accepts_stream, pieces}
use Rattle.fwd_model.specs.StepActions.{step}
use Rattle.fwd_model.proofs.Actions.{stays}
use Rattle.fwd_model.proofs.Refinement.{completes_note, refines_err}
use Rattle.fwd_engine_state.specs.StateRepresents.{StateRepresents, is_not_state_fact}
use Rattle.fwd_engine_state.proofs.OtherFacts.{state_after_other_fact}
use Rattle.fwd_model.specs.Settings.{accepts_connections_at}
use Rattle.fwd_engine_state.specs.StreamsRepresent.{StreamsRepresent, StreamsNoteWhere}
use Rattle.fwd_engine_state.specs.FileFacts.{is_file_fact}
use Rattle.fwd_engine_state.proofs.FileSteps as followed_files
use Rattle.fwd_engine_state.specs.StoreRepresents.{is_store_fact}
use Rattle.fwd_engine_state.proofs.OtherStoreFacts.{store_after_other_fact}
use Rattle.fwd_engine_state.specs.PartsRepresent.{PartsRepresentIdle}
use Rattle.fwd_engine_state.specs.declared.parts.Parts.{Parts}
use Rattle.fwd_engine_state.proofs.InvariantSteps.{keeps_invariant, sound_after_fact}

pub represents_by_streams : (s : AllSettings) (old new : Parts) (h : History) (fact : Fact)
    → new.state ≡ old.state → new.followed_files ≡ old.followed_files → new.store ≡ old.store
    → is_not_state_fact s fact ≡ true → is_file_fact fact ≡ false → is_store_fact fact ≡ false → keeps_invariant fact ≡ true
    → StreamsRepresent s new.input_streams (fact ∷ h) → PartsRepresentIdle s old h → PartsRepresentIdle s new (fact ∷ h)
represents_by_streams s old new h fact states follows holds stays unfollowed unheld keeps heard shown = record {
  state = rw states (state_after_other_fact s old.state h None fact stays shown.state);
  input_streams = heard;
  followed_files = rw follows (followed_files.files_after_other_fact s old.followed_files h fact unfollowed shown.followed_files);
  store = rw holds (store_after_other_fact s old.store h fact unheld shown.store);
  sound = sound_after_fact s h None fact keeps shown.sound;
}

-- one fact, or memory ran out
pub notes_one : {T E : Type 0} (PartsRepresentIdle : History → Type 0) (w : CallLogs) (fact : Fact) (h : History) (r : Result T E) → OnOk r (PartsRepresentIdle (fact ∷ h)) → Refines (λ _ now. PartsRepresentIdle now) w w (note fact h) r
notes_one PartsRepresentIdle w fact h (Ok x) shown = completes_note PartsRepresentIdle w fact h shown
notes_one PartsRepresentIdle w fact h (Err e) shown = (_, stays w _)

-- bytes, over the stream that they belong to
pub step_piece : (s : AllSettings) (h : History) (input : InputId) (conn : ConnId) (bytes : List ℕ) (heard : Option Stream) → stream_of s h input.0 conn.0 ≡ heard
    → step s (happening.Piece input conn bytes) h ≡ note_then (Happened (happening.Piece input conn bytes)) h (accepts_stream s h input.0 bytes heard)
unfolding step pieces
step_piece s h input conn bytes heard is = λ i. note_then (Happened (happening.Piece input conn bytes)) h (accepts_stream s h input.0 bytes (is i))

-- the exit of a `?`
pub acts_end : {T E : Type 0} (s : AllSettings) (after : Parts) {a b : CallLogs} (p : Action History) (r : Result T E) → IsErr r → IsBegun a b p → Refines (λ _ now. PartsRepresentIdle s after now) a b p r
acts_end s after p r is began = refines_err (λ _ now. PartsRepresentIdle s after now) p r is began

-- a peer joins, or memory ran out
pub joins_one : {T E : Type 0} (s : AllSettings) (old new : Parts) (w : CallLogs) (h : History) (input : InputId) (conn : ConnId) (accepts_stream : Bool) (r : Result T E)
    → new.state ≡ old.state → new.followed_files ≡ old.followed_files → new.store ≡ old.store → accepts_stream ≡ accepts_connections_at s input.0
    → OnOk r (StreamsNoteWhere old.input_streams new.input_streams (λ s h. accepts_stream ≡ accepts_connections_at s input.0) (Happened (happening.Joined input conn))) → PartsRepresentIdle s old h
    → Refines (λ _ now. PartsRepresentIdle s new now) w w (step s (happening.Joined input conn) h) r
unfolding step
joins_one s old new w h input conn accepts_stream (Ok x) states follows holds is notes shown =
    completes_note (λ (now : History). PartsRepresentIdle s new now) w (Happened (happening.Joined input conn)) h
    (represents_by_streams s old new h (Happened (happening.Joined input conn)) states follows holds refl refl refl refl (notes s h shown.input_streams is) shown)
joins_one s old new w h input conn accepts_stream (Err e) states follows holds is notes shown = (_, stays w _)

-- standard input ends, which the state records too
pub represents_at_end : (s : AllSettings) (old new : Parts) (h : History) (input : InputId) → new.followed_files ≡ old.followed_files → new.store ≡ old.store
    → StateRepresents s new.state (Happened (happening.InputEnd input) ∷ h) None → StreamsRepresent s new.input_streams (Happened (happening.InputEnd input) ∷ h) → PartsRepresentIdle s old h → PartsRepresentIdle s new (Happened (happening.InputEnd input) ∷ h)
represents_at_end s old new h input follows holds states heard shown = record {
  state = states;
  input_streams = heard;
  followed_files = rw follows (followed_files.files_after_other_fact s old.followed_files h (Happened (happening.InputEnd input)) refl shown.followed_files);
  store = rw holds (store_after_other_fact s old.store h (Happened (happening.InputEnd input)) refl shown.store);
  sound = sound_after_fact s h None (Happened (happening.InputEnd input)) refl shown.sound;
}
