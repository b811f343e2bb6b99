-- Polls of files, and what the parts represent after them.
use Rattle.std.proofs.Common.{◌≡◌, inl, inr, ℕ, suc, ◌+◌, ◌-◌, ◌<◌, true, false, List, [], ◌∷◌, length, None, refl, ap, arith}
use Rattle.std.specs.List.{range_with_len}
use Rattle.fwd_outside.specs.Program.{Return, bind}
use Rattle.fwd_outside.specs.Log.{Completes as DidOne, IsBegun as BeganOne}
use Rattle.fwd_outside.specs.Disk.{DiskLog}
use Rattle.fwd_outside.specs.Files.{FilesLog, FilesProgram}
use Rattle.fwd_settings.specs.declared.settings_types.AllSettings.{AllSettings}
use Rattle.fwd_model.specs.Fact.{Fact, History, IoFailed}
use Rattle.fwd_model.specs.Trace.{Action}
use Rattle.fwd_model.specs.CallLogs.{CallLogs, Leads, IsBegun}
use Rattle.fwd_model.specs.DeviceActions.{on_files}
use Rattle.std.proofs.lemmas.Bool.{cases_Bool}
use Rattle.fwd_model.specs.Settings.{paths_at}
use Rattle.fwd_model.specs.Limits.{is_paused}
use Rattle.fwd_model.specs.InputActions.{polls_input, polls_all, polls_inputs}
use Rattle.fwd_model.proofs.Actions.{leads_inside}
use Rattle.fwd_model.proofs.DeviceActions.{files_leads}
use Rattle.fwd_engine_state.specs.StateRepresents.{StateRepresents, is_not_state_fact}
use Rattle.fwd_engine_state.proofs.OtherFacts.{state_after_other_fact as others_stay}
use Rattle.fwd_engine_state.specs.StreamFacts.{is_stream_fact}
use Rattle.fwd_engine_state.proofs.StreamSteps as input_streams
use Rattle.fwd_engine_state.specs.FilesRepresent.{FilesRepresent}
use Rattle.fwd_engine_state.proofs.FileSteps as followed_files
use Rattle.fwd_engine_state.specs.StoreRepresents.{is_store_fact}
use Rattle.fwd_engine_state.proofs.OtherStoreFacts.{store_after_other_fact}
use Rattle.fwd_engine_state.specs.RefinesAction.{with_files}
use Rattle.fwd_engine_state.specs.PartsRepresent.{PartsRepresentIdle}
use Rattle.fwd_engine_state.specs.declared.parts.Parts.{Parts}
use Rattle.fwd_engine_state.proofs.InvariantSteps.{keeps_invariant, sound_after_fact}

-- a program of file calls was completed, and the action continues with its result
pub files_completed : {R S : Type 0} (others : CallLogs) (disk : DiskLog) (old new : FilesLog) (p : FilesProgram R) (x : R) (next : R → Action S) → DidOne old new p x
    → Leads (with_files disk old others) (with_files disk new others) (bind (on_files p) next) (next x)
files_completed others disk old new p x next did = leads_inside next (files_leads (with_files disk old others) new p (Return x) did)

-- or it was begun
pub files_begun : {R S : Type 0} (others : CallLogs) (disk : DiskLog) (old new : FilesLog) (p : FilesProgram R) (next : R → Action S) → BeganOne old new p
    → IsBegun (with_files disk old others) (with_files disk new others) (bind (on_files p) next)
files_begun others disk old new p next began = (bind (on_files began.0) next, leads_inside next (files_leads (with_files disk old others) new p began.0 began.1))

-- a fact about a followed file
pub represents_by_files : (s : AllSettings) (old new : Parts) (h : History) (fact : Fact)
    → new.state ≡ old.state → new.input_streams ≡ old.input_streams → new.store ≡ old.store
    → is_not_state_fact s fact ≡ true → is_stream_fact fact ≡ false → is_store_fact fact ≡ false → keeps_invariant fact ≡ true
    → FilesRepresent s new.followed_files (fact ∷ h) → PartsRepresentIdle s old h → PartsRepresentIdle s new (fact ∷ h)
represents_by_files s old new h fact states hears holds stays unheard unheld keeps followed shown = record {
  state = rw states (others_stay s old.state h None fact stays shown.state);
  input_streams = rw hears (input_streams.streams_after_other_fact s old.input_streams h fact unheard shown.input_streams);
  followed_files = followed;
  store = rw holds (store_after_other_fact s old.store h fact unheld shown.store);
  sound = sound_after_fact s h None fact keeps shown.sound;
}

-- the fact of a failed poll
pub represents_fault : (s : AllSettings) (old new : Parts) (h : History) → new.input_streams ≡ old.input_streams → new.store ≡ old.store
    → StateRepresents s new.state (IoFailed ∷ h) None → FilesRepresent s new.followed_files h → PartsRepresentIdle s old h → PartsRepresentIdle s new (IoFailed ∷ h)
represents_fault s old new h hears holds states followed shown = record {
  state = states;
  input_streams = rw hears (input_streams.streams_after_other_fact s old.input_streams h IoFailed refl shown.input_streams);
  followed_files = followed_files.files_after_other_fact s new.followed_files h IoFailed refl followed;
  store = rw holds (store_after_other_fact s old.store h IoFailed refl shown.store);
  sound = sound_after_fact s h None IoFailed refl shown.sound;
}

-- ---- inputs, in their order

pub all_follow : (s : AllSettings) (h : History) → polls_all s h ≡ polls_inputs s (range_with_len 0 (length s.inputs - 0)) h
unfolding polls_all
all_follow s h =
    let same : length s.inputs ≡ length s.inputs - 0 = omega arith in
    ap (λ (n : ℕ). polls_inputs s (range_with_len 0 n) h) same

pub range_step : (i n : ℕ) → i < n → range_with_len i (n - i) ≡ i ∷ range_with_len (i + 1) (n - (i + 1))
range_step i n below =
    let one : n - i ≡ suc (n - (i + 1)) = omega (arith, below) in
    ap (range_with_len i) one

pub range_none : (i n : ℕ) → n ≡ i → range_with_len i (n - i) ≡ []
range_none i n same = let none : n - i ≡ 0 = omega (arith, same) in ap (range_with_len i) none

-- an input without files has nothing to poll, paused or not
nothing : (paths : List (List ℕ)) → length paths ≡ 0 → paths ≡ []
nothing [] none = refl
nothing (path ∷ paths) none = absurd (omega (arith, none))

pub none_followed : (s : AllSettings) (k : ℕ) (h : History) → length (paths_at s k) ≡ 0 → polls_input s k h ≡ Return h
unfolding polls_input
none_followed s k h none =
    let empty : paths_at s k ≡ [] = nothing (paths_at s k) none in
    elim (cases_Bool (is_paused s h k)) [
      | inl is ↦ rw is refl
      | inr isnt ↦ rw (isnt, empty) refl
    ]
