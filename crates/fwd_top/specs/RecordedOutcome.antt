-- What came of a run that is to be recorded.
use Rattle.std.specs.Prelude.{◌≡◌, ℕ, Bool, List, ◌++◌, Option, Result, Ok, Err}
use Rattle.fwd_settings.specs.Requirements.{MeetsRequirements}
use Rattle.fwd_settings.specs.declared.settings_types.AllSettings.{AllSettings}
use Rattle.fwd_script.specs.Schedule.{schedule_of}
use Rattle.fwd_script.specs.Text.{text_of}
use Rattle.fwd_model.specs.Trace.{TraceEntry}
use Rattle.fwd_model.specs.CallLogs.{CallLogs}
use Rattle.fwd_theorem_delivery.specs.Guarantee.{KeepsGuarantee}
use Rattle.fwd_replay.specs.RecordedRun.{RanSo, IsUnrecorded, Failed, RanOutOfMemory}
use Rattle.fwd_replay.specs.declared.recorded_run.Ran.{Ran}
use Rattle.fwd_replay.specs.declared.recorded_run.Ran.TheVariants as ran
use Rattle.fwd_theorem_recorded.specs.Replays.{RunReplays}
use Rattle.fwd_top.specs.Outcomes.{Platform, world}
use Rattle.fwd_top.specs.CrashConsistency.{AreSynced, AreSafe}
use Rattle.fwd_top.specs.Delivery.{KeepsToLastTurn}
use Rattle.fwd_top.specs.Offsets.{KeepsOffsets}
use Rattle.fwd_top.specs.SentRecords.{SendRecords}

module _ (s : AllSettings) (ticks : Option ℕ) (turns : ℕ) (old new : CallLogs) (endless : Bool) where
  -- the calls of the engine, from recovery on
  abbrev pub trace_of : (ran : Ran) → RanSo s ticks turns old new endless ran → List TraceEntry
  trace_of ran.NotRecordable found = found.did.entries
  trace_of (ran.Unrecorded reported) (Failed runs none) = runs.trace
  trace_of (ran.Unrecorded reported) (RanOutOfMemory begun none) = begun.begins.trace
  trace_of (ran.Recorded reported schedule) is = is.recovery ++ is.trace

  -- The run keeps the delivery guarantee, to its end or to the last whole turn before memory ran out.
  -- Nothing is claimed if it wasn't started.
  abbrev pub RecordedIsDelivered : (ran : Ran) → RanSo s ticks turns old new endless ran → Type 0
  RecordedIsDelivered ran.NotRecordable found = Unit {0}
  RecordedIsDelivered (ran.Unrecorded reported) (Failed runs none) = KeepsGuarantee s runs.trace
  RecordedIsDelivered (ran.Unrecorded reported) (RanOutOfMemory begun none) =
      KeepsToLastTurn s begun.begins.trace
  RecordedIsDelivered (ran.Recorded reported schedule) is = KeepsGuarantee s (is.recovery ++ is.trace)

  -- What was recorded replays. Nothing is claimed of a run that wasn't recorded.
  abbrev pub RecordReplays : (ran : Ran) → RanSo s ticks turns old new endless ran → Type 0
  RecordReplays ran.NotRecordable found = Unit {0}
  RecordReplays (ran.Unrecorded reported) why = Unit {0}
  RecordReplays (ran.Recorded reported schedule) is =
      RunReplays s ticks turns old new endless reported schedule is

-- the text of the schedule is read back as this schedule
abbrev pub IsReadBack : Ran → Type 0
IsReadBack (ran.Recorded reported (Ok schedule)) = schedule_of (text_of schedule) ≡ Ok schedule
IsReadBack other = Unit {0}

-- What came of it, and what holds of it as of any run: its settings meet what an engine requires, it keeps
-- the delivery guarantee, no crash loses a pending chunk, each kept offset of a followed file has nothing lost
-- before it, and each flush sends the records of its chunk. Its schedule is read back from its text, and each
-- replay of it is this run again.
pub record RecordedOutcome (turns : ℕ) (s : AllSettings) (ticks : Option ℕ) (old new : Platform)
    (ran : Ran) : Type 0 where
  pub comes : RanSo s ticks turns (world old) (world new) old.endless ran
  pub sound : MeetsRequirements s
  pub delivered : RecordedIsDelivered s ticks turns (world old) (world new) old.endless ran comes
  pub safe : AreSynced s → AreSafe s (trace_of s ticks turns (world old) (world new) old.endless ran comes)
  pub offsets : KeepsOffsets s (trace_of s ticks turns (world old) (world new) old.endless ran comes)
  pub records : SendRecords (trace_of s ticks turns (world old) (world new) old.endless ran comes)
  pub reads : IsReadBack ran
  pub replays : RecordReplays s ticks turns (world old) (world new) old.endless ran comes
