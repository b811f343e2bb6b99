-- The results of the steps towards an answer.
use Rattle.std.specs.Prelude.{◌≡◌, ℕ, Bool, true, false, List, [], ◌∷◌, Option, Some, None, Result, Ok, Err, IsErrAnd, option_map}
use Rattle.fwd_outside.specs.Log.{LogGrew, RunsProgram}
use Rattle.fwd_outside.specs.Files.{FilesLog}
use Rattle.fwd_outside.specs.Sink.{SinkLog}
use Rattle.fwd_config.specs.Variables.{Values}
use Rattle.fwd_config.specs.Sections.{reads_files}
use Rattle.fwd_config.specs.declared.section.Place.{Place}
use Rattle.fwd_config.specs.declared.section.Section.{Section}
use Rattle.fwd_config.specs.declared.fault.ConfigKind.{ConfigKind}
use Rattle.fwd_config.specs.declared.fault.ConfigKind.TheVariants as config_kind
use Rattle.fwd_settings_schema.specs.declared.error_kind.SettingKind.{SettingKind}
use Rattle.fwd_settings_schema.specs.declared.error_kind.SettingKind.TheVariants as setting_kind
use Rattle.fwd_settings.specs.Reading.{Checked, IsResult}
use Rattle.fwd_settings.specs.Settings.{settings_of}
use Rattle.fwd_settings.specs.declared.settings_types.AllSettings.{AllSettings}
use Rattle.fwd_files_mem.specs.FilesState.{FilesState}
use Rattle.fwd_files_mem.specs.declared.files.FilesNote.TheVariants.{Preset}
use Rattle.fwd_script.specs.declared.refusal.ScheduleKind.{ScheduleKind}
use Rattle.fwd_script.specs.declared.refusal.ScheduleKind.TheVariants as schedule_kind
use Rattle.fwd_replay.specs.Load.{config_text, schedule_text}
use Rattle.fwd_replay.specs.LiveRun.{events_below, heard_in}
use Rattle.fwd_replay.specs.RecordedRun.{RanSo, ending_of_run}
use Rattle.fwd_replay.specs.declared.recorded_run.Ran.{Ran}
use Rattle.fwd_replay.specs.declared.recorded_run.Ran.TheVariants as ran
use Rattle.fwd_replay.specs.declared.report.Ending.TheVariants as ending
use Rattle.fwd_replay.specs.declared.report.Reported.{Reported}
use Rattle.fwd_top.specs.Cases.{Case, Runs, Records, Refuses, Wanted, ToRun, ToRecord, ToReplay, AreSettingsOf, Replays, Generates, Lists, asked, load_config, load_schedule, of_config, of_load, refused_by, with_settings, settings_for}
use Rattle.fwd_top.specs.Answers.{Verdict, WroteIt, WroteAPrefix, WroteAtMostAPrefix, WroteSchedule, says, says_both}
use Rattle.fwd_top.specs.Outcomes.{Platform, Produces, world}
use Rattle.fwd_top.specs.declared.job.Job.{Job}
use Rattle.fwd_top.specs.declared.job.Job.TheVariants as job
use Rattle.fwd_top.specs.declared.status.ConfigRefusal.TheVariants.{Setting}
use Rattle.fwd_top.specs.declared.status.Status.{Status}
use Rattle.fwd_top.specs.declared.status.Status.TheVariants as status

abbrev pub unless_memory : Status → Option Case
unless_memory status.Memory = None
unless_memory other = Some (Refuses other)

-- the case of a job
abbrev pub of_job : Job → Case
of_job (job.Run s ticks) = Runs s ticks
of_job (job.Record s ticks) = Records s ticks
of_job (job.Replay s schedule) = Replays s schedule.lives
of_job (job.Generate s schedule) = Generates s schedule.lives
of_job (job.List folder) = Lists folder

-- the settings of a job, which a listing has none of
abbrev pub settings_in : Job → Option AllSettings
settings_in job = settings_for (of_job job)

abbrev pub is_to_run : Job → Bool
is_to_run (job.Run s ticks) = true
is_to_run (job.Record s ticks) = true
is_to_run (job.Replay s schedule) = false
is_to_run (job.Generate s schedule) = false
is_to_run (job.List folder) = false

abbrev pub is_to_record : Job → Bool
is_to_record (job.Record s ticks) = true
is_to_record other = false

-- whether a job uses the disk
abbrev pub takes_disk : Job → Bool
takes_disk (job.Run s ticks) = true
takes_disk (job.Record s ticks) = true
takes_disk (job.Replay s schedule) = false
takes_disk (job.Generate s schedule) = false
takes_disk (job.List folder) = true

abbrev pub is_run_wanted : Wanted → Bool
is_run_wanted (ToRun ticks) = true
is_run_wanted (ToRecord ticks) = true
is_run_wanted (ToReplay schedule) = false

abbrev pub is_record_wanted : Wanted → Bool
is_record_wanted (ToRecord ticks) = true
is_record_wanted other = false

-- the case that was reached; none if memory ran out
abbrev pub case_of : Result Job Status → Option Case
case_of (Ok job) = Some (of_job job)
case_of (Err other) = unless_memory other

-- it is this case, unless memory ran out
abbrev pub IsCaseOf : Case → Result Job Status → Type 0
IsCaseOf case (Ok job) = case ≡ of_job job
IsCaseOf case (Err status.Memory) = Unit {0}
IsCaseOf case (Err other) = case ≡ Refuses other

-- statuses of a refusal before anything is run
abbrev pub IsRefusal : Status → Type 0
IsRefusal status.Done = ⊥
IsRefusal status.TurnsSpent = ⊥
IsRefusal status.OutFault = ⊥
IsRefusal status.LoopFault = ⊥
IsRefusal status.KeeperFault = ⊥
IsRefusal status.DiskFault = ⊥
IsRefusal status.NotRecordable = ⊥
IsRefusal status.RecordFault = ⊥
IsRefusal other = Unit {0}

-- a refusal for another cause than a file
abbrev pub IsOwnRefusal : Status → Type 0
IsOwnRefusal status.FileFault = ⊥
IsOwnRefusal other = IsRefusal other

-- why a configuration, its settings, or a schedule has no run
abbrev pub config_status : ConfigKind → Place → Status
config_status config_kind.Memory place = status.Memory
config_status kind place = refused_by kind place

abbrev pub setting_status : SettingKind → Place → Status
setting_status setting_kind.Memory place = status.Memory
setting_status kind place = status.ConfigRefused (Setting kind) place

abbrev pub schedule_status : ScheduleKind → ℕ → Status
schedule_status schedule_kind.Memory line = status.Memory
schedule_status kind line = status.ScheduleRefused kind line

abbrev pub IsFileFault : {T : Type 0} → Result T Status → Type 0
IsFileFault result = IsErrAnd result (λ other. other ≡ status.FileFault)

-- the sections have these settings or this refusal, if a case was reached
abbrev pub AreSettings : List Section → Checked AllSettings → Option Case → Type 0
AreSettings sections checked (Some case) = IsResult (settings_of sections) checked
AreSettings sections checked None = Unit {0}

-- the calls on the files are those of a configuration and of what is wanted with it
pub record AsksFor (config : List ℕ) (wanted : Wanted) (env : Values) (old new : FilesLog)
    (case : Option Case) : Type 0 where
  pub checked : Checked AllSettings
  pub loaded : Option (List Section)
  pub are : AreSettingsOf loaded checked
  pub makes : RunsProgram old new (reads_files (of_config checked config wanted env))
      (option_map (asked loaded) case)

-- after sections that were loaded, the calls on the files are those that follow
pub record AsksAfter (sections : List Section) (wanted : Wanted) (old new : FilesLog)
    (case : Option Case) : Type 0 where
  pub checked : Checked AllSettings
  pub are : AreSettings sections checked case
  pub makes : RunsProgram old new (reads_files (with_settings (Some sections) wanted checked))
      (option_map (asked (Some sections)) case)

-- files in memory with the texts of a generated load
abbrev pub held_load : ℕ → FilesState
held_load count =
    record {
      given = [];
      notes = Preset load_schedule (schedule_text count) ∷ Preset load_config config_text ∷ [];
      faults = 0;
    }

-- the texts of a generated load have this case; nothing is claimed if memory ran out
abbrev pub ComesOfLoad : ℕ → Option Case → Type 0
ComesOfLoad count None = Unit {0}
ComesOfLoad count (Some case) =
    (checked : Checked AllSettings) × (loaded : Option (List Section)) × AreSettingsOf loaded checked
    × (of_load checked count ≡ asked loaded case)

-- What came of a job: of a run that is to be recorded, how it went; of any other job a text and how it ended.
abbrev pub JobProduces : ℕ → Case → Platform → Platform → Ran → Type 0
JobProduces turns (Records s ticks) old new went =
    RanSo s ticks turns (world old) (world new) old.endless went
JobProduces turns case old new (ran.Unrecorded reported) = Produces turns case old new reported
JobProduces turns case old new went = ⊥

-- the least number of events that the loop returned, and that the loop, the keeper or the disk failed
abbrev pub given_by : Job → ℕ → Ran → ℕ
given_by (job.Run s ticks) turns went = events_below s (heard_in turns (ending_of_run went))
given_by (job.Record s ticks) turns went = events_below s (heard_in turns (ending_of_run went))
given_by (job.Replay s schedule) turns went = 0
given_by (job.Generate s schedule) turns went = 0
given_by (job.List folder) turns went = 0

abbrev pub HasLoopFailed : Job → Ran → Type 0
HasLoopFailed (job.Run s ticks) went = ending_of_run went ≡ ending.LoopFailed
HasLoopFailed (job.Record s ticks) went = ending_of_run went ≡ ending.LoopFailed
HasLoopFailed (job.Replay s schedule) went = ⊥
HasLoopFailed (job.Generate s schedule) went = ⊥
HasLoopFailed (job.List folder) went = ⊥

abbrev pub HasKeeperFailed : Job → Ran → Type 0
HasKeeperFailed (job.Run s ticks) went = ending_of_run went ≡ ending.KeeperFailed
HasKeeperFailed (job.Record s ticks) went = ending_of_run went ≡ ending.KeeperFailed
HasKeeperFailed (job.Replay s schedule) went = ⊥
HasKeeperFailed (job.Generate s schedule) went = ⊥
HasKeeperFailed (job.List folder) went = ⊥

abbrev pub HasDiskFailed : Job → Ran → Type 0
HasDiskFailed (job.Run s ticks) went = ending_of_run went ≡ ending.DiskFailed
HasDiskFailed (job.Record s ticks) went = ending_of_run went ≡ ending.DiskFailed
HasDiskFailed (job.Replay s schedule) went = ⊥
HasDiskFailed (job.Generate s schedule) went = ⊥
HasDiskFailed (job.List folder) went = ending_of_run went ≡ ending.DiskFailed

-- the text that was written
abbrev pub Writes : {T : Type 0} → SinkLog → SinkLog → List ℕ → Result T Status → Type 0
Writes old new text (Ok done) = WroteIt old new text
Writes old new text (Err status.OutFault) = WroteAPrefix old new text
Writes old new text (Err status.Memory) = WroteAtMostAPrefix old new text
Writes old new text (Err other) = ⊥

-- the text of a schedule that was written to the tape
abbrev pub Tapes : {T : Type 0} → SinkLog → SinkLog → List ℕ → Result T Status → Type 0
Tapes old new text (Ok done) = WroteSchedule old new (Some text)
Tapes old new text (Err status.RecordFault) = WroteAPrefix old new text
Tapes old new text (Err status.Memory) = WroteAtMostAPrefix old new text
Tapes old new text (Err other) = ⊥

-- the status after the writing of a text that is to end this way
pub data WritesSo (old new : SinkLog) (text : List ℕ) (end result : Status) : Type 0 where
  WroteTheText : result ≡ end → WroteIt old new text → WritesSo old new text end result
  OutFailed : result ≡ status.OutFault → WroteAPrefix old new text → WritesSo old new text end result
  NoMemory : result ≡ status.Memory → WroteAtMostAPrefix old new text → WritesSo old new text end result

-- the text written for a verdict, and the status then
abbrev pub WritesText : SinkLog → SinkLog → Verdict → Status → Type 0
WritesText old new verdict result = WritesSo old new verdict.text verdict.status result

-- The status after the writing of a verdict to the sink and the tape, whose logs these are: of its text, and
-- then of its schedule if it has one.
pub data WritesVerdict (old new tape_old tape_new : SinkLog) (verdict : Verdict)
    (result : Status) : Type 0 where
  AllWritten : result ≡ verdict.status → WroteIt old new verdict.text
      → WroteSchedule tape_old tape_new verdict.schedule
      → WritesVerdict old new tape_old tape_new verdict result
  TextFailed : result ≡ status.OutFault → WroteAPrefix old new verdict.text → LogGrew tape_old tape_new []
      → WritesVerdict old new tape_old tape_new verdict result
  TextStopped : result ≡ status.Memory → WroteAtMostAPrefix old new verdict.text
      → LogGrew tape_old tape_new [] → WritesVerdict old new tape_old tape_new verdict result
  RecordFailed : (text schedule : List ℕ) (end : Status) → verdict ≡ says_both text end schedule
      → result ≡ status.RecordFault → WroteIt old new text → WroteAPrefix tape_old tape_new schedule
      → WritesVerdict old new tape_old tape_new verdict result
  RecordStopped : (text schedule : List ℕ) (end : Status) → verdict ≡ says_both text end schedule
      → result ≡ status.Memory → WroteIt old new text → WroteAtMostAPrefix tape_old tape_new schedule
      → WritesVerdict old new tape_old tape_new verdict result
