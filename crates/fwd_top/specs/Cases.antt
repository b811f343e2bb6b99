-- What the program is to run or to replay: a function of its words, the environment, the bytes of its
-- files, and the settings of its sections.
use Rattle.std.specs.Prelude.{ℕ, List, [], ◌∷◌, map, String, string_bytes, codes, Option, Some, None, Result, Ok, Err}
use Rattle.fwd_outside.specs.Program.{Return, Ask, bind}
use Rattle.fwd_outside.specs.Files.{FilesGiven, found}
use Rattle.fwd_config.specs.Variables.{Values}
use Rattle.fwd_config.specs.Sections.{Reading, load_program, given}
use Rattle.fwd_config.specs.declared.section.Place.{Place}
use Rattle.fwd_config.specs.declared.section.Section.{Section}
use Rattle.fwd_config.specs.declared.fault.ConfigFault.{ConfigFault}
use Rattle.fwd_config.specs.declared.fault.ConfigKind.{ConfigKind}
use Rattle.fwd_config.specs.declared.fault.ConfigKind.TheVariants as config_kind
use Rattle.fwd_settings.specs.Reading.{Checked, IsResult}
use Rattle.fwd_settings.specs.Requirements.{MeetsRequirements}
use Rattle.fwd_settings.specs.Settings.{settings_of}
use Rattle.fwd_settings.specs.declared.settings_types.AllSettings.{AllSettings}
use Rattle.fwd_settings_schema.specs.declared.fault.SettingFault.{SettingFault}
use Rattle.fwd_script.specs.declared.schedule.Schedule.{Schedule}
use Rattle.fwd_script.specs.declared.schedule.Life.{Life}
use Rattle.fwd_script.specs.declared.refusal.ScheduleRefused.{ScheduleRefused}
use Rattle.fwd_script.specs.Schedule.{schedule_of}
use Rattle.fwd_replay.specs.Load.{config_text, schedule_text}
use Rattle.fwd_top.specs.Words.{Command, Run, Record, Replay, ListFolder, Generate, command_of}
use Rattle.fwd_top.specs.declared.status.ConfigRefusal.TheVariants.{Load, Setting}
use Rattle.fwd_top.specs.declared.status.Status.{Status}
use Rattle.fwd_top.specs.declared.status.Status.TheVariants as status

-- The runs of a schedule are replayed with settings, or those of a generated load, of which the reports
-- alone are shown; or settings are run, and stopped after a number of clock ticks if one is given; or this
-- run is recorded too; or the chunk files under a folder are listed; or nothing is done, for this reason.
pub data Case : Type 0 where
  Replays : AllSettings → List Life → Case
  Generates : AllSettings → List Life → Case
  Runs : AllSettings → (ticks : Option ℕ) → Case
  Records : AllSettings → (ticks : Option ℕ) → Case
  Lists : (root : List ℕ) → Case
  Refuses : Status → Case

-- the settings of a case, which a listing and a refusal have none of
abbrev pub settings_for : Case → Option AllSettings
settings_for (Replays s lives) = Some s
settings_for (Generates s lives) = Some s
settings_for (Runs s ticks) = Some s
settings_for (Records s ticks) = Some s
settings_for (Lists root) = None
settings_for (Refuses other) = None

-- the runs that a case replays
abbrev pub lives_of : Case → List Life
lives_of (Replays s lives) = lives
lives_of (Generates s lives) = lives
lives_of (Runs s ticks) = []
lives_of (Records s ticks) = []
lives_of (Lists root) = []
lives_of (Refuses other) = []

-- they meet what an engine requires
abbrev pub AreSound : Option AllSettings → Type 0
AreSound (Some s) = MeetsRequirements s
AreSound None = Unit {0}

-- what is to be done with the settings of a configuration
pub data Wanted : Type 0 where
  ToRun : (ticks : Option ℕ) → Wanted
  ToRecord : (ticks : Option ℕ) → Wanted
  ToReplay : (schedule : List ℕ) → Wanted

-- the sections that were loaded, if any were, and the case
pub record Asked : Type 0 where
  pub loaded : Option (List Section)
  pub case : Case

abbrev pub asked : Option (List Section) → Case → Asked
asked loaded case = record { loaded = loaded; case = case }

-- why there is no run: a file can't be read, or the configuration is refused at its place
abbrev pub refused_by : ConfigKind → Place → Status
refused_by config_kind.FileFault place = status.FileFault
refused_by kind place = status.ConfigRefused (Load kind) place

abbrev pub refused_config : ConfigFault → Status
refused_config fault = refused_by fault.kind fault.place

abbrev pub refused_settings : SettingFault → Status
refused_settings fault = status.ConfigRefused (Setting fault.kind) fault.place

abbrev pub of_schedule : AllSettings → Result Schedule ScheduleRefused → Case
of_schedule s (Ok schedule) = Replays s schedule.lives
of_schedule s (Err refused) = Refuses (status.ScheduleRefused refused.kind refused.line)

-- for the schedule's file
abbrev pub of_file : AllSettings → Option (List ℕ) → Case
of_file s (Some bytes) = of_schedule s (schedule_of bytes)
of_file s None = Refuses status.FileFault

-- after settings, the schedule is read if there is to be one
abbrev pub wanted_by : Option (List Section) → AllSettings → Wanted → Reading Asked
wanted_by loaded s (ToRun ticks) = Return (asked loaded (Runs s ticks))
wanted_by loaded s (ToRecord ticks) = Return (asked loaded (Records s ticks))
wanted_by loaded s (ToReplay schedule) = Ask schedule (λ bytes. Return (asked loaded (of_file s bytes)))

abbrev pub with_settings : Option (List Section) → Wanted → Checked AllSettings → Reading Asked
with_settings loaded wanted (Ok s) = wanted_by loaded s wanted
with_settings loaded wanted (Err fault) = Return (asked loaded (Refuses (refused_settings fault)))

-- after the sections come their settings
abbrev pub with_sections : Checked AllSettings → Wanted → Result (List Section) ConfigFault → Reading Asked
with_sections checked wanted (Ok sections) = with_settings (Some sections) wanted checked
with_sections checked wanted (Err fault) = Return (asked None (Refuses (refused_config fault)))

abbrev pub of_config : Checked AllSettings → (config : List ℕ) → Wanted → Values → Reading Asked
of_config checked config wanted env = bind (load_program env config) (with_sections checked wanted)

-- the two texts of a generated load, under the paths by which they are read
abbrev pub load_config : List ℕ
load_config = codes "gen.conf"

abbrev pub load_schedule : List ℕ
load_schedule = codes "gen.schedule"

abbrev pub load_files : ℕ → FilesGiven
load_files count = (load_config, config_text) ∷ (load_schedule, schedule_text count) ∷ []

-- no variable is set
abbrev pub no_values : Values
no_values name = []

-- a replay shows the reports alone
abbrev pub reports_of : Case → Case
reports_of (Replays s lives) = Generates s lives
reports_of (Generates s lives) = Generates s lives
reports_of (Runs s ticks) = Runs s ticks
reports_of (Records s ticks) = Records s ticks
reports_of (Lists root) = Lists root
reports_of (Refuses other) = Refuses other

abbrev pub alone : Asked → Asked
alone x = asked x.loaded (reports_of x.case)

-- a generated load: its texts, read as if they were in files
unfoldable pub of_load : Checked AllSettings → (count : ℕ) → Asked
of_load checked count =
    alone
    (given (found (load_files count)) (of_config checked load_config (ToReplay load_schedule) no_values))

abbrev pub of_command : Checked AllSettings → Option Command → Values → Reading Asked
of_command checked None env = Return (asked None (Refuses status.Usage))
of_command checked (Some (Run config ticks)) env = of_config checked config (ToRun ticks) env
of_command checked (Some (Record config ticks tape)) env = of_config checked config (ToRecord ticks) env
of_command checked (Some (Replay config schedule)) env = of_config checked config (ToReplay schedule) env
of_command checked (Some (ListFolder folder)) env = Return (asked None (Lists folder))
of_command checked (Some (Generate count)) env = Return (of_load checked count)

-- The program reads the configuration's files as each is reached, and then the schedule of a replay, if
-- the sections have these settings or this refusal.
abbrev pub asks : {Y : Type 0} → Checked AllSettings → List (String Y) → Values → Reading Asked
asks checked words env = of_command checked (command_of (map string_bytes words)) env

-- the sections that were loaded have these settings, or this refusal
abbrev pub AreSettingsOf : Option (List Section) → Checked AllSettings → Type 0
AreSettingsOf (Some sections) checked = IsResult (settings_of sections) checked
AreSettingsOf None checked = Unit {0}
