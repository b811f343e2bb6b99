-- The line and the exit status of each status.
use Rattle.std.specs.Prelude.{ℕ, List, [], ◌++◌, codes, decimal}
use Rattle.fwd_config.specs.declared.section.Place.{Place}
use Rattle.fwd_config.specs.declared.fault.ConfigKind.{ConfigKind}
use Rattle.fwd_config.specs.declared.fault.ConfigKind.TheVariants as config_kind
use Rattle.fwd_script.specs.declared.refusal.ScheduleKind.{ScheduleKind}
use Rattle.fwd_script.specs.declared.refusal.ScheduleKind.TheVariants as schedule_kind
use Rattle.fwd_settings_schema.specs.declared.error_kind.SettingKind.{SettingKind}
use Rattle.fwd_settings_schema.specs.declared.error_kind.SettingKind.TheVariants as setting_kind
use Rattle.fwd_top.specs.declared.status.ConfigRefusal.{ConfigRefusal}
use Rattle.fwd_top.specs.declared.status.ConfigRefusal.TheVariants.{Load, Setting}
use Rattle.fwd_top.specs.declared.status.Status.{Status}
use Rattle.fwd_top.specs.declared.status.Status.TheVariants as status

-- the names of the refusals
abbrev pub config_kind_name : ConfigKind → List ℕ
config_kind_name config_kind.EntryOutsideSection = codes "EntryOutsideSection"
config_kind_name config_kind.NoValue = codes "NoValue"
config_kind_name config_kind.BadSection = codes "BadSection"
config_kind_name config_kind.IncludeTooDeep = codes "IncludeTooDeep"
config_kind_name config_kind.BadSet = codes "BadSet"
config_kind_name config_kind.OpenBrace = codes "OpenBrace"
config_kind_name config_kind.NotUtf8 = codes "NotUtf8"
config_kind_name config_kind.FileFault = codes "FileFault"
config_kind_name config_kind.Memory = codes "Memory"

abbrev pub setting_kind_name : SettingKind → List ℕ
setting_kind_name setting_kind.UnknownPlugin = codes "UnknownPlugin"
setting_kind_name setting_kind.UnknownKey = codes "UnknownKey"
setting_kind_name setting_kind.BadNumber = codes "BadNumber"
setting_kind_name setting_kind.BadSize = codes "BadSize"
setting_kind_name setting_kind.BadChoice = codes "BadChoice"
setting_kind_name setting_kind.Missing = codes "Missing"
setting_kind_name setting_kind.TooMany = codes "TooMany"
setting_kind_name setting_kind.PatternRefused = codes "PatternRefused"
setting_kind_name setting_kind.Memory = codes "Memory"
setting_kind_name setting_kind.UnknownSection = codes "UnknownSection"

abbrev pub refusal_name : ConfigRefusal → List ℕ
refusal_name (Load kind) = config_kind_name kind
refusal_name (Setting kind) = setting_kind_name kind

abbrev pub schedule_kind_name : ScheduleKind → List ℕ
schedule_kind_name schedule_kind.UnknownWord = codes "UnknownWord"
schedule_kind_name schedule_kind.BadNumber = codes "BadNumber"
schedule_kind_name schedule_kind.BadHex = codes "BadHex"
schedule_kind_name schedule_kind.BadOrder = codes "BadOrder"
schedule_kind_name schedule_kind.Memory = codes "Memory"

-- a file, and the number of a line
unfoldable pub place_text : Place → List ℕ
place_text place = place.file ++ codes ":" ++ decimal place.line

unfoldable pub config_line : ConfigRefusal → Place → List ℕ
config_line refusal place =
    codes "config refused: " ++ refusal_name refusal ++ codes " at " ++ place_text place

unfoldable pub schedule_line : ScheduleKind → ℕ → List ℕ
schedule_line kind line =
    codes "schedule refused: " ++ schedule_kind_name kind ++ codes " at line " ++ decimal line

-- the line that says how the program ended, without a line feed
abbrev pub line_of : Status → List ℕ
line_of status.Done = []
line_of status.Usage =
    codes "usage: fwd run -c FILE [-n TICKS] [--record FILE] | replay -c FILE -s FILE"
    ++ codes " | list -p FOLDER | gen -n COUNT"
line_of (status.ConfigRefused refusal place) = config_line refusal place
line_of status.FileFault = codes "file fault"
line_of status.DiskFault = codes "disk fault"
line_of (status.ScheduleRefused kind line) = schedule_line kind line
line_of status.OutFault = codes "output fault"
line_of status.TurnsSpent = codes "turns spent"
line_of status.Memory = codes "out of memory"
line_of status.LoopFault = codes "loop fault"
line_of status.KeeperFault = codes "keeper fault"
line_of status.NotRecordable = codes "not recordable"
line_of status.RecordFault = codes "record fault"

-- the exit status of the program
abbrev pub number_of : Status → ℕ
number_of status.Done = 0
number_of status.Usage = 1
number_of (status.ConfigRefused kind place) = 2
number_of status.FileFault = 3
number_of status.DiskFault = 4
number_of (status.ScheduleRefused kind line) = 5
number_of status.OutFault = 6
number_of status.TurnsSpent = 7
number_of status.Memory = 8
number_of status.LoopFault = 9
number_of status.KeeperFault = 11
number_of status.NotRecordable = 12
number_of status.RecordFault = 13
