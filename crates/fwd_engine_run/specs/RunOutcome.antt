-- What the run loop does.
use Rattle.std.specs.Prelude.{ℕ, Result, Ok, Err, MatchResult}
use Rattle.fwd_outside.specs.Loop.{LoopLog}
use Rattle.fwd_outside.specs.Disk.{DiskLog}
use Rattle.fwd_outside.specs.Files.{FilesLog}
use Rattle.fwd_keeper.specs.Keeper.{KeeperLog}
use Rattle.fwd_settings.specs.declared.settings_types.AllSettings.{AllSettings}
use Rattle.fwd_model.specs.Fact.{History}
use Rattle.fwd_model.specs.Trace.{Action}
use Rattle.fwd_model.specs.CallLogs.{CallLogs, Leads, Completes, IsBegun}
use Rattle.fwd_model.specs.Run.{End, Over, KeeperFailed, LoopFailed, TurnsSpent, RunResult, lived}
use Rattle.fwd_engine_state.specs.RefinesAction.{with_all}
use Rattle.fwd_engine.specs.EngineSteps.{IsAt}
use Rattle.fwd_engine.specs.declared.engine.Engine.{Engine}
use Rattle.fwd_engine.specs.declared.engine.EngineStop.{EngineStop}
use Rattle.fwd_engine.specs.declared.engine.EngineStop.TheVariants as stop
use Rattle.fwd_engine.specs.declared.engine.Turn.{Turn}
use Rattle.fwd_engine.specs.declared.engine.Turn.TheVariants as turn
use Rattle.fwd_engine_run.specs.OffsetRows.{Keeps, with_keeper}
use Rattle.fwd_engine_run.specs.declared.kept_offsets.KeptOffsets.{KeptOffsets}
use Rattle.fwd_engine_run.specs.declared.run_loop.RunEnd.{RunEnd}
use Rattle.fwd_engine_run.specs.declared.run_loop.RunEnd.TheVariants as run_end

abbrev pub end_of : RunEnd → End
end_of run_end.Over = Over
end_of run_end.KeeperFailed = KeeperFailed
end_of run_end.LoopFailed = LoopFailed
end_of run_end.TurnsSpent = TurnsSpent

-- an engine represents the history at the end of its run, unless the keeper or the loop failed
abbrev pub IsAtEnd : Engine → AllSettings → History → RunEnd → Type 0
IsAtEnd engine s h run_end.KeeperFailed = Unit {0}
IsAtEnd engine s h run_end.LoopFailed = Unit {0}
IsAtEnd engine s h end = IsAt engine s h

-- the calls are those of a run to its end, which was this one, and the engine represents the history there
pub record RanToEnd (a b : CallLogs) (s : AllSettings) (run : Action RunResult) (after : Engine)
    (end : RunEnd) : Type 0 where
  pub history : History
  pub did : Completes a b run (lived history (end_of end))
  pub at : IsAtEnd after s history end

-- The calls are those of a part of a run: up to what follows it, where the engine represents the history and
-- the rows have the offsets that are kept; to the end of the run; or, if memory ran out, some first calls.
abbrev pub RunContinues : CallLogs → CallLogs → AllSettings → Action RunResult → (History → Action RunResult)
    → Engine → KeptOffsets → Result Turn EngineStop → Type 0
RunContinues a b s part next after offsets (Ok turn.More) =
    (now : History) × IsAt after s now × Keeps s offsets now × Leads a b part (next now)
RunContinues a b s part next after offsets (Ok turn.Over) =
    (now : History) × IsAt after s now × Completes a b part (lived now Over)
RunContinues a b s part next after offsets (Err stop.LoopFault) =
    (now : History) × Completes a b part (lived now LoopFailed)
RunContinues a b s part next after offsets (Err stop.Memory) = IsBegun a b part

-- how many events a run was given that ended so
abbrev pub heard_in : {E : Type 0} → ℕ → Result RunEnd E → ℕ
heard_in most (Ok run_end.TurnsSpent) = most
heard_in most (Ok end) = 0
heard_in most (Err e) = 0

-- a completed run, or the beginning of one if memory ran out
abbrev pub RunOutcome : {E : Type 0} → CallLogs → CallLogs → AllSettings → Action RunResult → Engine
    → Result RunEnd E → Type 0
RunOutcome a b s run after result =
    MatchResult result (λ end. RanToEnd a b s run after end) (λ _. IsBegun a b run)

-- the world in which the four devices have these call logs
abbrev pub with_devices : LoopLog → DiskLog → FilesLog → KeeperLog → CallLogs → CallLogs
with_devices loop disk files keeper others = with_all loop disk files (with_keeper keeper others)

-- For each history that the engine represents and whose offsets are kept, in every world: the calls are those
-- of a run from there.
abbrev pub RunsFrom : {E : Type 0} → (CallLogs → CallLogs) → (CallLogs → CallLogs) → Engine → KeptOffsets
    → (AllSettings → History → Action RunResult) → Engine → Result RunEnd E → Type 0
RunsFrom old new before offsets run after result =
    (others : CallLogs) (s : AllSettings) (h : History) → IsAt before s h → Keeps s offsets h
    → RunOutcome (old others) (new others) s (run s h) after result
