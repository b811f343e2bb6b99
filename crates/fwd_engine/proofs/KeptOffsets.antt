-- What an engine represents after facts about offsets that are kept.
use Rattle.std.proofs.Common.{◌≡◌, ℕ, zero, suc, Bool, true, false, List, ◌∷◌, length, Option, None, refl}
use Rattle.std.specs.Prelude.{if◌then◌else◌, slice_get}
use Rattle.fwd_settings.specs.declared.settings_types.AllSettings.{AllSettings}
use Rattle.fwd_model.specs.Fact.{History, Resumed, Saved}
use Rattle.fwd_model.specs.Settings.{paths_at}
use Rattle.fwd_engine_state.specs.FileRepresents.{is_path}
use Rattle.fwd_engine_state.specs.FilesRepresent.{FilesRepresent, resumed_history}
use Rattle.fwd_engine_state.specs.StreamsRepresent.{StreamsRepresent}
use Rattle.fwd_engine_state.proofs.StreamSteps.{streams_after_other_fact}
use Rattle.fwd_engine_state.specs.StateRepresents.{StateRepresents}
use Rattle.fwd_engine_state.specs.StoreRepresents.{StoreRepresents}
use Rattle.fwd_engine_state.specs.HistoryInvariant.{IsSound}
use Rattle.fwd_engine_state.specs.PartsRepresent.{PartsRepresentIdle}
use Rattle.fwd_engine_state.specs.declared.parts.Parts.{Parts}
use Rattle.fwd_engine_state.proofs.FactSteps.{represents_after_other_fact}
use Rattle.fwd_engine_state.proofs.InvariantSteps.{sound_after_fact}
use Rattle.fwd_engine_state.proofs.OtherFacts.{state_after_other_fact}
use Rattle.fwd_engine_state.proofs.OtherStoreFacts.{store_after_other_fact}
use Rattle.fwd_engine.specs.EngineSteps.{IsAt}
use Rattle.fwd_engine.specs.declared.engine.Engine.{Engine}

-- that the database took an offset concerns no part
pub saved_stays : (engine : Engine) (s : AllSettings) (h : History) (input index place : ℕ) → IsAt engine s h → IsAt engine s (Saved input index place ∷ h)
saved_stays engine s h input index place at = record {
  settings = at.settings;
  shows = represents_after_other_fact s engine.parts h None None (Saved input index place) refl refl refl refl refl at.shows;
}

-- all parts but the followed files represent the history
record OthersRepresent (s : AllSettings) (parts : Parts) (h : History) : Type 0 where
  state : StateRepresents s parts.state h None
  input_streams : StreamsRepresent s parts.input_streams h
  store : StoreRepresents s parts.store h
  sound : IsSound s h None

module _ (s : AllSettings) (parts : Parts) (input place : ℕ) where
  others_resumed : (index : ℕ) (h : History) → OthersRepresent s parts h → OthersRepresent s parts (Resumed input index place ∷ h)
  others_resumed index h others = record {
    state = state_after_other_fact s parts.state h None (Resumed input index place) refl others.state;
    input_streams = streams_after_other_fact s parts.input_streams h (Resumed input index place) refl others.input_streams;
    store = store_after_other_fact s parts.store h (Resumed input index place) refl others.store;
    sound = sound_after_fact s h None (Resumed input index place) refl others.sound;
  }

  others_if : (is : Bool) (index : ℕ) (h : History) → OthersRepresent s parts h → OthersRepresent s parts (if is then Resumed input index place ∷ h else h)
  others_if true index h others = others_resumed index h others
  others_if false index h others = others

  others_after : (path : List ℕ) (paths : List (List ℕ)) (count : ℕ) (h : History) → OthersRepresent s parts h → OthersRepresent s parts (resumed_history input path place paths count h)
  others_after path paths zero h others = others
  others_after path paths (suc index) h others =
      others_if (is_path path (slice_get paths index)) index (resumed_history input path place paths index h) (others_after path paths index h others)

-- reading resumed, and only the followed files changed
pub resumed_engine : (old new : Engine) (s : AllSettings) (h : History) (input place : ℕ) (path : List ℕ)
    → new.run ≡ old.run → new.parts.state ≡ old.parts.state → new.parts.input_streams ≡ old.parts.input_streams → new.parts.store ≡ old.parts.store
    → FilesRepresent s new.parts.followed_files (resumed_history input path place (paths_at s input) (length (paths_at s input)) h)
    → IsAt old s h → IsAt new s (resumed_history input path place (paths_at s input) (length (paths_at s input)) h)
resumed_engine old new s h input place path runs states hears holds follows at =
    let others = others_after s old.parts input place path (paths_at s input) (length (paths_at s input)) h
    (record { state = at.shows.state; input_streams = at.shows.input_streams; store = at.shows.store; sound = at.shows.sound }) in
    record {
      settings = rw runs at.settings;
      shows = record {
        state = rw states others.state;
        input_streams = rw hears others.input_streams;
        followed_files = follows;
        store = rw holds others.store;
        sound = others.sound;
      };
    }
