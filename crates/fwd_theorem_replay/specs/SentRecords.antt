-- What the flushes of the runs of a schedule send.
use Rattle.std.specs.Prelude.{ℕ, ◌-◌, List, [], ◌∷◌, ◌++◌}
use Rattle.fwd_settings.specs.declared.settings_types.AllSettings.{AllSettings}
use Rattle.fwd_script.specs.declared.schedule.Life.{Life}
use Rattle.fwd_model.specs.Trace.{history_after}
use Rattle.fwd_theorem_trace.specs.Waits.{waits_in}
use Rattle.fwd_theorem_records.specs.Records.{FlushesSendTheirRecords}
use Rattle.fwd_replay.specs.Runs.{Start, IsReplayed, Ended, WasCut, OutOfMemory}
use Rattle.fwd_replay.specs.declared.report.Reported.{Reported}
use Rattle.fwd_replay.specs.declared.report.Shown.{Shown}

-- each flush of each run of a replay, in the turn in which a run is cut too, began with the records of its
-- chunk
abbrev pub EachSendsRecords : (shown : Shown) (s : AllSettings) (turns : ℕ) (start : Start)
    (lives : List Life) (reported : Reported) → IsReplayed shown s turns start lives reported → Type 0
EachSendsRecords shown s turns start [] reported is = Unit {0}
EachSendsRecords shown s turns start (planned ∷ lives) reported (Ended ends) =
    FlushesSendTheirRecords (history_after ends.trace [])
EachSendsRecords shown s turns start (planned ∷ lives) reported (WasCut c is rest more joins) =
    FlushesSendTheirRecords (history_after (c.before ++ c.turn) [])
    × EachSendsRecords shown s (turns - waits_in (c.before ++ c.turn)) c.next lives rest more
EachSendsRecords shown s turns start (planned ∷ lives) reported (OutOfMemory none) = Unit {0}
