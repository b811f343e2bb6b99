-- What the parts represent after one more fact.
use Rattle.std.proofs.Common.{◌≡◌, ◌<◌, ℕ, true, false, ◌∷◌, Option, Some, None}
use Rattle.fwd_settings.specs.declared.settings_types.AllSettings.{AllSettings}
use Rattle.fwd_model.specs.Fact.{Fact, History, Route}
use Rattle.fwd_engine_state.specs.StateRepresents.{StateRepresents, is_not_state_fact}
use Rattle.fwd_engine_inputs.specs.StreamFacts.{is_stream_fact}
use Rattle.fwd_engine_inputs.specs.FileFacts.{is_file_fact}
use Rattle.fwd_engine_state.specs.StoreRepresents.{is_store_fact}
use Rattle.fwd_engine_state.proofs.OtherFacts.{state_after_other_fact}
use Rattle.fwd_engine_inputs.proofs.StreamSteps as input_streams
use Rattle.fwd_engine_inputs.proofs.FileSteps as followed_files
use Rattle.fwd_engine_state.proofs.OtherStoreFacts.{store_after_other_fact}
use Rattle.fwd_engine_state.proofs.RemovedChunks.{store_after_close}
use Rattle.fwd_model.specs.Chunks.{next, is_closed}
use Rattle.fwd_engine_state.specs.PartsRepresent.{PartsRepresent, IsClosing}
use Rattle.fwd_engine_state.specs.declared.parts.Parts.{Parts}
use Rattle.fwd_engine_state.proofs.InvariantSteps.{keeps_invariant, sound_after_fact}

-- a fact that concerns the state alone
pub represents_by_state : (s : AllSettings) (old new : Parts) (h : History) (before after : Option Route) (full : Option ℕ) (fact : Fact)
    → new.input_streams ≡ old.input_streams → new.followed_files ≡ old.followed_files → new.store ≡ old.store
    → is_stream_fact fact ≡ false → is_file_fact fact ≡ false → is_store_fact fact ≡ false → keeps_invariant fact ≡ true
    → StateRepresents s new.state (fact ∷ h) after → PartsRepresent s old h before full → PartsRepresent s new (fact ∷ h) after full
represents_by_state s old new h before after full fact hears follows holds unheard unfollowed unheld keeps state shown = record {
  state = state;
  input_streams = rw hears (input_streams.streams_after_other_fact s old.input_streams h fact unheard shown.input_streams);
  followed_files = rw follows (followed_files.files_after_other_fact s old.followed_files h fact unfollowed shown.followed_files);
  store = rw holds (store_after_other_fact s old.store h fact unheld shown.store);
  sound = sound_after_fact s h full fact keeps shown.sound;
}

-- a fact that concerns no part
pub represents_after_other_fact : (s : AllSettings) (parts : Parts) (h : History) (out : Option Route) (full : Option ℕ) (fact : Fact)
    → is_not_state_fact s fact ≡ true → is_stream_fact fact ≡ false → is_file_fact fact ≡ false → is_store_fact fact ≡ false → keeps_invariant fact ≡ true
    → PartsRepresent s parts h out full → PartsRepresent s parts (fact ∷ h) out full
represents_after_other_fact s parts h out full fact stays unheard unfollowed unheld keeps shown = record {
  state = state_after_other_fact s parts.state h out fact stays shown.state;
  input_streams = input_streams.streams_after_other_fact s parts.input_streams h fact unheard shown.input_streams;
  followed_files = followed_files.files_after_other_fact s parts.followed_files h fact unfollowed shown.followed_files;
  store = store_after_other_fact s parts.store h fact unheld shown.store;
  sound = sound_after_fact s h full fact keeps shown.sound;
}

-- an open chunk, which may be full, may close
pub closing_when_full : (s : AllSettings) (parts : Parts) (h : History) (n : ℕ) → PartsRepresent s parts h None (Some n) → is_closed h n ≡ false → n < next h → IsClosing s parts h n
closing_when_full s parts h n shown still given = record {
  state = shown.state;
  input_streams = shown.input_streams;
  followed_files = shown.followed_files;
  store = store_after_close s parts.store h n shown.store;
  sound = shown.sound;
  still = still;
  given = given;
}
