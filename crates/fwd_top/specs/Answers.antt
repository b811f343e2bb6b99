-- What the program answers.
use Rattle.std.specs.Prelude.{◌≡◌, ◌≢◌, ◌⊎◌, ℕ, ◌+◌, ◌/◌, ◌≤◌, List, [], ◌∷◌, ◌++◌, length, map, String, string_bytes, Bool, true, false, if◌then◌else◌, Option, Some, None, option_map, Result, Ok, Err}
use Rattle.fwd_outside.specs.Program.{entry}
use Rattle.fwd_outside.specs.Log.{LogGrew, RunsProgram}
use Rattle.fwd_outside.specs.Disk.{DiskLog}
use Rattle.fwd_outside.specs.Files.{FilesLog, FilesGiven, FilesEntry, IsConsistentLog, found, files_after_all}
use Rattle.fwd_outside.specs.Loop.{LoopCounts, LoopLog}
use Rattle.fwd_outside.specs.Sink.{SinkLog, Write, Wrote as WroteAll, log_of_stopped}
use Rattle.fwd_keeper.specs.Keeper.{KeeperLog}
use Rattle.fwd_config.specs.Variables.{Values}
use Rattle.fwd_config.specs.Sections.{reads_files, given}
use Rattle.fwd_config.specs.declared.section.Section.{Section}
use Rattle.fwd_settings.specs.Reading.{Checked}
use Rattle.fwd_settings.specs.declared.settings_types.AllSettings.{AllSettings}
use Rattle.fwd_engine_state.specs.LoopCounters.{EventsTaken}
use Rattle.fwd_replay.specs.LiveRun.{events_below}
use Rattle.fwd_replay.specs.declared.report.Ending.{Ending}
use Rattle.fwd_replay.specs.declared.report.Ending.TheVariants as ending
use Rattle.fwd_replay.specs.declared.report.Reported.{Reported}
use Rattle.fwd_replay.specs.declared.recorded_run.Ran.{Ran}
use Rattle.fwd_replay.specs.declared.recorded_run.Ran.TheVariants as ran
use Rattle.fwd_base.specs.declared.memory.Memory.{Memory}
use Rattle.fwd_script.specs.Text.{text_of}
use Rattle.fwd_script.specs.declared.schedule.Schedule.{Schedule}
use Rattle.fwd_top.specs.Words.{Command, Run, Record, ListFolder, command_of}
use Rattle.fwd_top.specs.Cases.{AreSound, Case, Records, Refuses, Runs, asked, asks, AreSettingsOf, settings_for}
use Rattle.fwd_top.specs.declared.status.Status.{Status}
use Rattle.fwd_top.specs.declared.status.Status.TheVariants as status
use Rattle.fwd_top.specs.Outcomes.{Platform, platform_of, AreNotCalled, Produces}
use Rattle.fwd_top.specs.Delivery.{IsDelivered}
use Rattle.fwd_top.specs.Determinism.{IsDetermined}
use Rattle.fwd_top.specs.EnoughTurns.{HasFewTurns}
use Rattle.fwd_top.specs.CrashConsistency.{IsCrashConsistent}
use Rattle.fwd_top.specs.SentRecords.{EachRunSendsRecords}
use Rattle.fwd_top.specs.Offsets.{EachRunKeepsOffsets}
use Rattle.fwd_top.specs.RecordedOutcome.{RecordedOutcome}

-- A text to be written, unless it is empty; for a run that was recorded, the text of its schedule, to be
-- written after it; and the status then.
pub record Verdict : Type 0 where
  pub text : List ℕ
  pub status : Status
  pub schedule : Option (List ℕ)

abbrev pub says : List ℕ → Status → Verdict
says text status = record { text = text; status = status; schedule = None }

abbrev pub says_both : List ℕ → Status → (schedule : List ℕ) → Verdict
says_both text status schedule = record { text = text; status = status; schedule = Some schedule }

abbrev pub status_of : Ending → Status
status_of ending.Over = status.Done
status_of ending.TurnsSpent = status.TurnsSpent
status_of ending.DiskFailed = status.DiskFault
status_of ending.KeeperFailed = status.KeeperFault
status_of ending.LoopFailed = status.LoopFault
status_of ending.Memory = status.Memory

-- for the outcome of a run, a replay or a listing
abbrev pub of_reported : Reported → Verdict
of_reported reported = says reported.text (status_of reported.ending)

-- For a recorded run. If memory ran out for its schedule, its report is written nevertheless.
abbrev pub of_recorded : Reported → Result Schedule Memory → Verdict
of_recorded reported (Ok schedule) =
    says_both reported.text (status_of reported.ending) (text_of schedule)
of_recorded reported (Err none) = says reported.text status.Memory

-- for a run that was to be recorded
abbrev pub of_ran : Ran → Verdict
of_ran ran.NotRecordable = says [] status.NotRecordable
of_ran (ran.Unrecorded reported) = of_reported reported
of_ran (ran.Recorded reported schedule) = of_recorded reported schedule

-- What came of a case, and what holds of it: its settings meet what an engine requires, each of its runs
-- keeps the delivery guarantee, no crash loses a pending chunk, each kept offset of a followed file has
-- nothing lost before it, each flush sends the records of its chunk, and a replay is the only one of its
-- schedule.
pub record Outcome (turns : ℕ) (case : Case) (old new : Platform) (reported : Reported) : Type 0 where
  pub comes : Produces turns case old new reported
  pub sound : AreSound (settings_for case)
  pub delivered : IsDelivered turns case old new reported comes
  pub safe : IsCrashConsistent turns case old new reported comes
  pub offsets : EachRunKeepsOffsets turns case old new reported comes
  pub records : EachRunSendsRecords turns case old new reported comes
  pub determined : IsDetermined turns case reported

-- the verdict of a case is that of its outcome
abbrev pub IsVerdict : ℕ → Case → Platform → Platform → Verdict → Type 0
IsVerdict turns (Refuses other) old new verdict = (verdict ≡ says [] other) × AreNotCalled old new
IsVerdict turns (Records s ticks) old new verdict =
    (ran : Ran) × RecordedOutcome turns s ticks old new ran × (verdict ≡ of_ran ran)
IsVerdict turns case old new verdict =
    (reported : Reported) × Outcome turns case old new reported × (verdict ≡ of_reported reported)

-- the call logs of all devices, and whether the loop never ends
pub record Devices : Type 0 where
  pub disk : DiskLog
  pub files : FilesLog
  pub loop : LoopLog
  pub keeper : KeeperLog
  pub sink : SinkLog
  pub tape : SinkLog
  pub endless : Bool

-- those of a run, when the files have this log
abbrev pub platform : Devices → FilesLog → Platform
platform all read = platform_of all.disk read all.loop all.keeper all.endless

-- The calls on the files are those of the program's asking, to its end with this case; without a case,
-- because memory ran out, they are its first ones.
pub record Asks {Y : Type 0} (words : List (String Y)) (env : Values) (old new : FilesLog)
    (case : Option Case) : Type 0 where
  pub checked : Checked AllSettings
  pub loaded : Option (List Section)
  pub are : AreSettingsOf loaded checked
  pub makes : RunsProgram old new (reads_files (asks checked words env)) (option_map (asked loaded) case)

-- The devices came to this verdict: the files were read for the configuration and the schedule, up to
-- `read`, and then all of them were called for the case.
pub record Comes {Y : Type 0} (words : List (String Y)) (env : Values) (turns : ℕ) (old new : Devices)
    (verdict : Verdict) : Type 0 where
  pub case : Case
  pub read : FilesLog
  pub asks : Asks words env old.files read (Some case)
  pub is : IsVerdict turns case (platform old read) (platform new new.files) verdict

-- the asking was begun, and there was no other call
pub record Begins {Y : Type 0} (words : List (String Y)) (env : Values) (old new : Devices) : Type 0 where
  pub asks : Asks words env old.files new.files None
  pub disk : LogGrew old.disk new.disk []
  pub loop : LogGrew old.loop new.loop []
  pub keeper : LogGrew old.keeper new.keeper []

-- a text was written to its end, or a prefix of it
abbrev pub WroteIt : SinkLog → SinkLog → List ℕ → Type 0
WroteIt old new [] = LogGrew old new []
WroteIt old new (byte ∷ bytes) = LogGrew old new (entry (Write (byte ∷ bytes)) WroteAll ∷ [])

abbrev pub WroteAPrefix : SinkLog → SinkLog → List ℕ → Type 0
WroteAPrefix old new text = (taken : ℕ) × (taken ≤ length text) × LogGrew old new (log_of_stopped text taken)

-- the text of a schedule was written to its end, also an empty one
abbrev pub WroteSchedule : SinkLog → SinkLog → Option (List ℕ) → Type 0
WroteSchedule old new None = LogGrew old new []
WroteSchedule old new (Some text) = LogGrew old new (entry (Write text) WroteAll ∷ [])

-- The text written to the sink and the schedule written to the tape, for each status, given a property of the
-- verdict. `Memory` says nothing here.
abbrev pub Wrote : (Verdict → Type 0) → Devices → Devices → Status → Type 0
Wrote Holds old new status.OutFault =
    (verdict : Verdict) × Holds verdict × WroteAPrefix old.sink new.sink verdict.text
    × LogGrew old.tape new.tape []
Wrote Holds old new status.RecordFault =
    (text schedule : List ℕ) × (end : Status) × Holds (says_both text end schedule)
    × WroteIt old.sink new.sink text × WroteAPrefix old.tape new.tape schedule
Wrote Holds old new status.Memory = Unit {0}
Wrote Holds old new result =
    (verdict : Verdict) × Holds verdict × (verdict.status ≡ result)
    × WroteIt old.sink new.sink verdict.text × WroteSchedule old.tape new.tape verdict.schedule

-- nothing of a text was written, or a prefix of it
abbrev pub WroteAtMostAPrefix : SinkLog → SinkLog → List ℕ → Type 0
WroteAtMostAPrefix old new text = LogGrew old new [] ⊎ WroteAPrefix old new text

-- Memory ran out while words and files were read; or in the run or the listing, or in a run of the
-- replay, and the texts of those before it are written; or after a recorded run, for its schedule, and its
-- report is written; or a text wasn't written to its end; or it was, and the schedule after it wasn't.
pub data RanOutOfMemory {Y : Type 0} (words : List (String Y)) (env : Values) (turns : ℕ)
    (old new : Devices) : Type 0 where
  WhileAsking : Begins words env old new → LogGrew old.sink new.sink [] → LogGrew old.tape new.tape []
      → RanOutOfMemory words env turns old new
  InTheJob : (text : List ℕ) → Comes words env turns old new (says text status.Memory)
      → WroteIt old.sink new.sink text → LogGrew old.tape new.tape [] → RanOutOfMemory words env turns old new
  WhileWriting : (verdict : Verdict) → Comes words env turns old new verdict
      → WroteAtMostAPrefix old.sink new.sink verdict.text → LogGrew old.tape new.tape []
      → RanOutOfMemory words env turns old new
  WhileRecording : (text schedule : List ℕ) (end : Status)
      → Comes words env turns old new (says_both text end schedule) → WroteIt old.sink new.sink text
      → WroteAtMostAPrefix old.tape new.tape schedule → RanOutOfMemory words env turns old new

-- the calls on the devices, and what was written to the sink and to the tape, for each status
abbrev pub Answers : {Y : Type 0} → List (String Y) → Values → ℕ → Devices → Devices → Status → Type 0
Answers words env turns old new status.Memory = RanOutOfMemory words env turns old new
Answers words env turns old new other = Wrote (Comes words env turns old new) old new other

-- the verdict of the existing bytes of the files
pub record IsVerdictOf {Y : Type 0} (words : List (String Y)) (env : Values) (turns : ℕ)
    (existing : FilesGiven) (old new : Devices) (verdict : Verdict) : Type 0 where
  pub checked : Checked AllSettings
  pub loaded : Option (List Section)
  pub are : AreSettingsOf loaded checked
  pub case : Case
  pub given : given (found existing) (asks checked words env) ≡ asked loaded case
  pub read : FilesLog
  pub is : IsVerdict turns case (platform old read) (platform new new.files) verdict

-- The files log their calls, and each of the calls that were made found the existing bytes: those of the
-- first files, after the calls before.
pub record AreConsistent (old new : FilesLog) (existing : FilesGiven) : Type 0 where
  pub first : FilesGiven
  pub before : List FilesEntry
  pub made : List FilesEntry
  pub old_is : old ≡ Some (first, before)
  pub new_is : new ≡ Some (first, before ++ made)
  pub existing_is : existing ≡ files_after_all first before
  pub consistent : IsConsistentLog existing made

-- If the files return the existing bytes, and no call on them fails, the verdict is that of these bytes.
abbrev pub IsOfTheFiles : {Y : Type 0} → List (String Y) → Values → ℕ → Devices → Devices → Status
    → Type 0
IsOfTheFiles words env turns old new result =
    (existing : FilesGiven) → AreConsistent old.files new.files existing → result ≢ status.FileFault
    → Wrote (IsVerdictOf words env turns existing old new) old new result

-- the words ask for a run
abbrev pub is_run : Option Command → Bool
is_run (Some (Run config ticks)) = true
is_run (Some (Record config ticks tape)) = true
is_run other = false

-- a run's loop failed
abbrev pub IsLoopFault : {Y : Type 0} → List (String Y) → Status → Type 0
IsLoopFault words result = (is_run (command_of (map string_bytes words)) ≡ true) × (result ≡ status.LoopFault)

-- a run's keeper failed
abbrev pub IsKeeperFault : {Y : Type 0} → List (String Y) → Status → Type 0
IsKeeperFault words result =
    (is_run (command_of (map string_bytes words)) ≡ true) × (result ≡ status.KeeperFault)

-- the words ask for a run or a listing, which use the disk
abbrev pub is_over_disk : Option Command → Bool
is_over_disk (Some (Run config ticks)) = true
is_over_disk (Some (Record config ticks tape)) = true
is_over_disk (Some (ListFolder folder)) = true
is_over_disk other = false

abbrev pub IsDiskFault : {Y : Type 0} → List (String Y) → Status → Type 0
IsDiskFault words result =
    (is_over_disk (command_of (map string_bytes words)) ≡ true) × (result ≡ status.DiskFault)

-- the least number of events that the loop returned
abbrev pub spent_by : Status → Bool → ℕ → ℕ
spent_by status.TurnsSpent runs turns = if runs then turns else 0
spent_by other runs turns = 0

abbrev pub spent : {Y : Type 0} → List (String Y) → ℕ → Status → ℕ
spent words turns result = spent_by result (is_run (command_of (map string_bytes words))) turns

-- half of so many, rounded up
abbrev pub half : ℕ → ℕ
half n = (n + 1) / 2

-- The least number of events that the loop of a case returned, if the limit on turns was so many: as many, or with
-- a key half as many, since one event becomes at most two.
abbrev pub least_heard : Case → ℕ → ℕ
least_heard (Runs s ticks) turns = events_below s turns
least_heard (Records s ticks) turns = events_below s turns
least_heard other turns = 0

-- The case that was asked for, the events that its loop returned, and that a replay had fewer turns than its
-- schedule needs.
pub record SpendsTurns {Y : Type 0} (words : List (String Y)) (env : Values) (turns : ℕ) (old : FilesLog)
    (before after : LoopCounts) : Type 0 where
  pub case : Case
  pub read : FilesLog
  pub asks : Asks words env old read (Some case)
  pub heard : EventsTaken (least_heard case turns) before after
  pub few : HasFewTurns case turns
