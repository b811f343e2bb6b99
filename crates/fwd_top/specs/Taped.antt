-- What is written to the tape.
use Rattle.std.specs.Prelude.{◌≡◌, ◌⊎◌, ℕ, Bool, true, false, List, [], map, String, string_bytes, Option, Some, None, Ok}
use Rattle.fwd_outside.specs.Log.{LogGrew}
use Rattle.fwd_outside.specs.Files.{FilesLog}
use Rattle.fwd_outside.specs.Sink.{SinkLog}
use Rattle.fwd_settings.specs.declared.settings_types.AllSettings.{AllSettings}
use Rattle.fwd_script.specs.Schedule.{schedule_of}
use Rattle.fwd_script.specs.Text.{text_of}
use Rattle.fwd_script.specs.declared.schedule.Schedule.{Schedule}
use Rattle.fwd_replay.specs.RecordedRun.{IsRecorded}
use Rattle.fwd_replay.specs.declared.report.Reported.{Reported}
use Rattle.fwd_top.specs.Words.{Command, Record, command_of}
use Rattle.fwd_top.specs.Outcomes.{world}
use Rattle.fwd_top.specs.Answers.{Devices, platform, WroteAPrefix, WroteSchedule}
use Rattle.fwd_top.specs.declared.status.Status.{Status}
use Rattle.fwd_top.specs.declared.status.Status.TheVariants as status

-- The text of the schedule of a run that was recorded over these devices, after the files were read up to
-- `read`. It is read back as this schedule.
pub record IsTextOfRun (turns : ℕ) (old new : Devices) (text : List ℕ) : Type 0 where
  pub s : AllSettings
  pub ticks : Option ℕ
  pub read : FilesLog
  pub reported : Reported
  pub schedule : Schedule
  pub recorded : IsRecorded s ticks turns (world (platform old read)) (world (platform new new.files))
      old.endless reported (Ok schedule)
  pub writes : text ≡ text_of schedule
  pub reads : schedule_of text ≡ Ok schedule

-- what was written, by the status, if it is to be a text with this property
abbrev pub TapedBy : (List ℕ → Type 0) → SinkLog → SinkLog → Status → Type 0
TapedBy IsText old new status.Done = (text : List ℕ) × IsText text × WroteSchedule old new (Some text)
TapedBy IsText old new status.TurnsSpent = (text : List ℕ) × IsText text × WroteSchedule old new (Some text)
TapedBy IsText old new status.RecordFault = (text : List ℕ) × IsText text × WroteAPrefix old new text
TapedBy IsText old new status.Memory =
    LogGrew old new [] ⊎ ((text : List ℕ) × IsText text × WroteAPrefix old new text)
TapedBy IsText old new other = LogGrew old new []

-- the words ask for a record
abbrev pub is_record : Option Command → Bool
is_record (Some (Record config ticks tape)) = true
is_record other = false

abbrev pub TapedIf : Bool → ℕ → Devices → Devices → Status → Type 0
TapedIf false turns old new result = LogGrew old.tape new.tape []
TapedIf true turns old new result = TapedBy (IsTextOfRun turns old new) old.tape new.tape result

-- Without `--record` nothing is written to the tape. With it, Done and TurnsSpent come after the whole
-- schedule of the run was written, RecordFault after a prefix of it, Memory after nothing or a prefix, and
-- any other status after nothing.
abbrev pub IsTaped : {Y : Type 0} → List (String Y) → ℕ → Devices → Devices → Status → Type 0
IsTaped words turns old new result =
    TapedIf (is_record (command_of (map string_bytes words))) turns old new result
