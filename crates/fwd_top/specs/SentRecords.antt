-- What the flushes of each run send.
use Rattle.std.specs.Prelude.{ℕ, List, [], Option}
use Rattle.fwd_outside.specs.AtCrashPoints.{Ends}
use Rattle.fwd_outside.specs.DiskStates.{Files}
use Rattle.fwd_settings.specs.declared.settings_types.AllSettings.{AllSettings}
use Rattle.fwd_model.specs.Trace.{TraceEntry, history_after}
use Rattle.fwd_theorem_crash.specs.CrashPoint.{CrashPoint, crash_point, LeadsTo}
use Rattle.fwd_theorem_records.specs.Records.{FlushesSendTheirRecords, NamesAreKnown}
use Rattle.fwd_theorem_replay.specs.SentRecords.{EachSendsRecords}
use Rattle.fwd_replay.specs.LiveRun.{IsRunLive, RanToEnd, RanOutOfMemory}
use Rattle.fwd_replay.specs.Runs.{first}
use Rattle.fwd_replay.specs.declared.report.Reported.{Reported}
use Rattle.fwd_replay.specs.declared.report.Shown.TheVariants.{All, Report}
use Rattle.fwd_top.specs.Cases.{Case, Replays, Generates, Runs, Records, Lists, Refuses}
use Rattle.fwd_top.specs.Outcomes.{Platform, Produces, world}

-- If a disk could have answered these calls this way, on which each name had a file, or had none that a crash
-- could bring back, each flush began with the records of its chunk: the events that were accepted into it, in
-- order, or those of its recovered file.
abbrev pub SendRecords : List TraceEntry → Type 0
SendRecords entries =
    (start : Files) (last : CrashPoint) → NamesAreKnown start
    → Ends LeadsTo (crash_point [] start) entries last → FlushesSendTheirRecords (history_after entries [])

-- a run over devices, with a call log or not, to its end or to where memory ran out
abbrev pub RunSendsRecords : (s : AllSettings) (ticks : Option ℕ) (turns : ℕ) (old new : Platform)
    (reported : Reported) → IsRunLive s ticks turns (world old) (world new) reported → Type 0
RunSendsRecords s ticks turns old new reported (RanToEnd run) = SendRecords run.trace
RunSendsRecords s ticks turns old new reported (RanOutOfMemory begun none) = SendRecords begun.trace

-- each run of the outcome of a case
abbrev pub EachRunSendsRecords : (turns : ℕ) (case : Case) (old new : Platform) (reported : Reported)
    → Produces turns case old new reported → Type 0
EachRunSendsRecords turns (Replays s lives) old new reported comes =
    EachSendsRecords All s turns first lives reported comes.replayed
EachRunSendsRecords turns (Generates s lives) old new reported comes =
    EachSendsRecords Report s turns first lives reported comes.replayed
EachRunSendsRecords turns (Runs s ticks) old new reported comes =
    RunSendsRecords s ticks turns old new reported comes
EachRunSendsRecords turns (Records s ticks) old new reported comes = Unit {0}
EachRunSendsRecords turns (Lists root) old new reported comes = Unit {0}
EachRunSendsRecords turns (Refuses other) old new reported comes = Unit {0}
