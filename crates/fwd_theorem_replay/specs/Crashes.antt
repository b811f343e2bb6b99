-- What the crashes between the runs of a schedule leave to the next run.
use Rattle.std.specs.Prelude.{◌≡◌, ℕ, ◌-◌, true, List, [], ◌∷◌, ◌++◌, Contains, Some}
use Rattle.fwd_outside.specs.Program.{Return, Execution}
use Rattle.fwd_outside.specs.declared.home.Home.TheVariants.{Disk}
use Rattle.fwd_disk_mem.specs.Entry.{entries_of}
use Rattle.fwd_settings.specs.declared.settings_types.AllSettings.{AllSettings}
use Rattle.fwd_script.specs.declared.schedule.Life.{Life}
use Rattle.fwd_model.specs.Fact.{History}
use Rattle.fwd_model.specs.Trace.{TraceEntry, disk_part, history_after}
use Rattle.fwd_model.specs.Chunks.{ChunkInfo, chunks_of}
use Rattle.fwd_model.specs.Routes.{is_owed, home_of}
use Rattle.fwd_model.specs.RecoveryActions.{recovers}
use Rattle.fwd_theorem_trace.specs.Waits.{waits_in}
use Rattle.fwd_theorem_crash.specs.Recovery.{IsRecovered}
use Rattle.fwd_replay.specs.Runs.{Start, CutRun, first_calls, IsReplayed, Ended, WasCut, OutOfMemory}
use Rattle.fwd_replay.specs.declared.report.Reported.{Reported}
use Rattle.fwd_replay.specs.declared.report.Shown.{Shown}

-- The crash came after these calls of the engine of a run that was cut: the disk had answered the calls that
-- the crash keeps, and no more.
pub record CrashedAfter (c : CutRun) (gone : List TraceEntry) : Type 0 where
  pub rest : List TraceEntry
  pub is : c.before ++ c.turn ≡ gone ++ rest
  pub answered : disk_part gone ≡ entries_of (c.asked ++ first_calls c.cut.calls c.asked_in)

-- a run began by loading its disk, with this result
pub record HasLoaded (s : AllSettings) (trace : List TraceEntry) (h : History) : Type 0 where
  pub loading : List TraceEntry
  pub rest : List TraceEntry
  pub is : trace ≡ loading ++ rest
  pub way : Execution (recovers s) loading (Return (Some h))

-- each pending file-backed chunk is recovered, whole, and pending for the same outputs
abbrev pub RecoversAll : AllSettings → History → History → Type 0
RecoversAll s before after = (c : ChunkInfo) → Contains (chunks_of before) c → is_owed s before c ≡ true
    → home_of s c.input ≡ Disk → IsRecovered s before after c

-- this run recovers what the run that was cut had logged at the crash, if no call on the disk fails as it
-- loads
abbrev pub LosesNothing : AllSettings → CutRun → List TraceEntry → Type 0
LosesNothing s c next = (gone : List TraceEntry) (h : History) → CrashedAfter c gone → HasLoaded s next h
    → RecoversAll s (history_after gone []) h

-- the run after a crash, as the first of what is left of a replay
abbrev pub NextLosesNothing : (shown : Shown) (s : AllSettings) (turns : ℕ) (c : CutRun) (lives : List Life)
    (reported : Reported) → IsReplayed shown s turns c.next lives reported → Type 0
NextLosesNothing shown s turns c [] reported is = Unit {0}
NextLosesNothing shown s turns c (planned ∷ lives) reported (Ended ends) = LosesNothing s c ends.trace
NextLosesNothing shown s turns c (planned ∷ lives) reported (WasCut again is rest more joins) =
    LosesNothing s c (again.before ++ again.turn)
NextLosesNothing shown s turns c (planned ∷ lives) reported (OutOfMemory none) = Unit {0}

-- at each crash between the runs of a replay
abbrev pub NothingIsLost : (shown : Shown) (s : AllSettings) (turns : ℕ) (start : Start) (lives : List Life)
    (reported : Reported) → IsReplayed shown s turns start lives reported → Type 0
NothingIsLost shown s turns start [] reported is = Unit {0}
NothingIsLost shown s turns start (planned ∷ lives) reported (Ended ends) = Unit {0}
NothingIsLost shown s turns start (planned ∷ lives) reported (WasCut c is rest more joins) =
    let left = turns - waits_in (c.before ++ c.turn) in
    NextLosesNothing shown s left c lives rest more × NothingIsLost shown s left c.next lives rest more
NothingIsLost shown s turns start (planned ∷ lives) reported (OutOfMemory none) = Unit {0}
