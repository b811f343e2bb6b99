-- The text of a run: what its standard outputs took, and its report; or its report alone.
use Rattle.std.specs.Prelude.{ℕ, ◌+◌, ◌-◌, ◌*◌, ◌==◌, Bool, true, false, if◌then◌else◌, List, [], ◌∷◌, ◌++◌, length, map, slice_index, codes, decimal}
use Rattle.fwd_settings.specs.declared.settings_types.AllSettings.{AllSettings}
use Rattle.fwd_settings.specs.declared.settings_types.InputSet.{InputSet}
use Rattle.fwd_settings.specs.declared.settings_types.OutputSet.{OutputSet}
use Rattle.fwd_settings.specs.declared.settings_types.OutputKind.{OutputKind}
use Rattle.fwd_settings.specs.declared.settings_types.OutputKind.TheVariants as output_kind
use Rattle.fwd_script.specs.declared.schedule.Cut.{Cut}
use Rattle.fwd_script_loop.specs.LinkBytes.{handed}
use Rattle.fwd_model.specs.Fact.{History}
use Rattle.fwd_model.specs.Trace.{TraceEntry, loop_part}
use Rattle.fwd_model.specs.Routes.{rows_of}
use Rattle.fwd_model.specs.Counters.{tally_of}
use Rattle.fwd_model.specs.Run.{End, Over, DiskFailed, KeeperFailed, LoopFailed, TurnsSpent}
use Rattle.fwd_report.specs.Report.{report_of}
use Rattle.fwd_replay.specs.declared.report.Reported.{Reported}
use Rattle.fwd_replay.specs.declared.report.Ending.TheVariants as ending
use Rattle.fwd_replay.specs.declared.report.Shown.{Shown}
use Rattle.fwd_replay.specs.declared.report.Shown.TheVariants.{All, Report}

abbrev pub input_names : List InputSet → List (List ℕ)
input_names inputs = map (λ (set : InputSet). set.name) inputs

abbrev pub output_names : List OutputSet → List (List ℕ)
output_names outputs = map (λ (set : OutputSet). set.name) outputs

abbrev pub is_stdout : OutputKind → Bool
is_stdout (output_kind.Stdout form) = true
is_stdout (output_kind.File folder file form) = false
is_stdout (output_kind.Tcp host port form) = false
is_stdout (output_kind.Forward host port ack whole_time) = false
is_stdout (output_kind.Http host port uri form options) = false

-- bit i is set if output i is a standard output
abbrev pub stdout_mask : List OutputSet → ℕ
stdout_mask [] = 0
stdout_mask (set ∷ more) = (if is_stdout set.kind then 1 else 0) + 2 * stdout_mask more

-- a line feed, if a text isn't empty and doesn't end in one
abbrev pub line_end : List ℕ → List ℕ
line_end text =
    if length text == 0 then [] else if slice_index text (length text - 1) == 10 then [] else 10 ∷ []

abbrev pub with_line_end : List ℕ → List ℕ
with_line_end text = text ++ line_end text

abbrev pub report : AllSettings → History → List ℕ
report s h = report_of (input_names s.inputs) (output_names s.outputs) (rows_of s h) (tally_of s h)

-- the bytes that links of standard outputs took, in the order taken, and the report; or the report alone
abbrev pub life_text : Shown → AllSettings → List TraceEntry → History → List ℕ
life_text All s trace h = with_line_end (handed (stdout_mask s.outputs) [] (loop_part trace)) ++ report s h
life_text Report s trace h = report s h

-- the text of a run that ended this way
abbrev pub reported_by : List ℕ → End → Reported
reported_by text Over = record { text = text; ending = ending.Over }
reported_by text DiskFailed = record { text = []; ending = ending.DiskFailed }
reported_by text KeeperFailed = record { text = []; ending = ending.KeeperFailed }
reported_by text LoopFailed = record { text = []; ending = ending.LoopFailed }
reported_by text TurnsSpent = record { text = text; ending = ending.TurnsSpent }

-- if memory ran out it is empty
abbrev pub out_of_memory : Reported
out_of_memory = record { text = []; ending = ending.Memory }

-- the line between the texts of two runs
abbrev pub crash_line : Cut → List ℕ
crash_line cut = codes "crash " ++ decimal cut.calls ++ codes " " ++ decimal cut.pick ++ codes "\n"

-- it is there if there is a text after it
abbrev pub after_crash : Cut → List ℕ → List ℕ
after_crash cut [] = []
after_crash cut (byte ∷ bytes) = crash_line cut ++ byte ∷ bytes

-- the text of a run that was cut, and the text of those after it
abbrev pub joined : List ℕ → Cut → Reported → Reported
joined text cut rest = record { text = text ++ after_crash cut rest.text; ending = rest.ending }
