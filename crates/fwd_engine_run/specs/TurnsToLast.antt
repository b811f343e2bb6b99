-- What the turns of a run do, up to its end or to its last tick.
use Rattle.std.specs.Prelude.{ℕ, Bool, true, false, List, Option, None, Result, Ok, Err}
use Rattle.fwd_outside.specs.Program.{Return, Execution}
use Rattle.fwd_outside.specs.declared.happening.Happening.TheVariants as happening
use Rattle.fwd_settings.specs.declared.settings_types.AllSettings.{AllSettings}
use Rattle.fwd_model.specs.Fact.{History}
use Rattle.fwd_model.specs.Trace.{TraceEntry, Action}
use Rattle.fwd_model.specs.CallLogs.{CallLogs, LogsGrew, IsBegun}
use Rattle.fwd_model.specs.Run.{Over, LoopFailed, RunResult, lived, steps_on, run}
use Rattle.fwd_engine.specs.EngineSteps.{IsAt}
use Rattle.fwd_engine.specs.declared.engine.Engine.{Engine}
use Rattle.fwd_engine.specs.declared.engine.EngineStop.{EngineStop}
use Rattle.fwd_engine.specs.declared.engine.EngineStop.TheVariants as stop
use Rattle.fwd_engine_run.specs.OffsetRows.{Keeps}
use Rattle.fwd_engine_run.specs.RunOutcome.{IsAtEnd, end_of}
use Rattle.fwd_engine_run.specs.declared.kept_offsets.KeptOffsets.{KeptOffsets}
use Rattle.fwd_engine_run.specs.declared.run_parts.Paused.{Paused}
use Rattle.fwd_engine_run.specs.declared.run_parts.Paused.TheVariants as paused
use Rattle.fwd_engine_run.specs.declared.turns.TurnEnd.{TurnEnd}
use Rattle.fwd_engine_run.specs.declared.turns.TurnEnd.TheVariants as turn_end

-- The calls in between lead from an action of a run with a number of ticks to what is left of it, and so from
-- that of the run without one.
pub record LeadsBoth (old new : CallLogs) (ticked free : Action RunResult)
    (ticked_left free_left : Action RunResult) : Type 0 where
  pub entries : List TraceEntry
  pub asked : LogsGrew old new entries
  pub with_ticks : Execution ticked entries ticked_left
  pub without : Execution free entries free_left

-- ---- one turn

abbrev pub end_unless_last : Bool → TurnEnd
end_unless_last true = turn_end.AtLast
end_unless_last false = turn_end.More

-- how many events a turn was given at least
abbrev pub events_in : Result TurnEnd EngineStop → ℕ
events_in (Ok end) = 1
events_in (Err stop.LoopFault) = 1
events_in (Err stop.Memory) = 0

-- By the result, with so many turns left: the run goes on; it is at its last tick, and stops; it is over; the
-- loop failed; or memory ran out, and the calls are some first ones.
abbrev pub TurnTaken : CallLogs → CallLogs → AllSettings → Option ℕ → ℕ → (ticked free : Action RunResult)
    → Engine → KeptOffsets → Result TurnEnd EngineStop → Type 0
TurnTaken a b s ticks left ticked free after kept (Ok turn_end.More) =
    (now : History) × IsAt after s now × Keeps s kept now
    × LeadsBoth a b ticked free (run s ticks left now) (run s None left now)
TurnTaken a b s ticks left ticked free after kept (Ok turn_end.AtLast) =
    (now : History) × IsAt after s now × Keeps s kept now
    × LeadsBoth a b ticked free (steps_on s (run s ticks left) happening.Stop now) (run s None left now)
TurnTaken a b s ticks left ticked free after kept (Ok turn_end.Over) =
    (now : History) × IsAt after s now
    × LeadsBoth a b ticked free (Return (lived now Over)) (Return (lived now Over))
TurnTaken a b s ticks left ticked free after kept (Err stop.LoopFault) =
    (now : History) × LeadsBoth a b ticked free (Return (lived now LoopFailed)) (Return (lived now LoopFailed))
TurnTaken a b s ticks left ticked free after kept (Err stop.Memory) = IsBegun a b ticked

-- For each history that the engine represents and whose offsets are kept, in every world: the calls are those of
-- an action that a run with a number of ticks has there, and of that of a run without one.
abbrev pub TurnFrom : (CallLogs → CallLogs) → (CallLogs → CallLogs) → Engine → KeptOffsets → Option ℕ → ℕ
    → (Option ℕ → AllSettings → History → Action RunResult) → Engine → KeptOffsets
    → Result TurnEnd EngineStop → Type 0
TurnFrom old new before offsets ticks left act after kept result =
    (others : CallLogs) (s : AllSettings) (h : History) → IsAt before s h → Keeps s offsets h
    → TurnTaken (old others) (new others) s ticks left (act ticks s h) (act None s h) after kept result

-- ---- all turns

-- By the result: the run ended; it is at its last tick, with so many turns left, and stops; or memory ran out,
-- and the calls are some first ones.
abbrev pub TurnsTaken : {E : Type 0} → CallLogs → CallLogs → AllSettings → Option ℕ
    → (ticked free : Action RunResult) → Engine → KeptOffsets → Result Paused E → Type 0
TurnsTaken a b s ticks ticked free after kept (Ok (paused.Ended end)) =
    (now : History) × IsAtEnd after s now end
    × LeadsBoth a b ticked free (Return (lived now (end_of end))) (Return (lived now (end_of end)))
TurnsTaken a b s ticks ticked free after kept (Ok (paused.AtLast left)) =
    (now : History) × IsAt after s now × Keeps s kept now
    × LeadsBoth a b ticked free (steps_on s (run s ticks left) happening.Stop now) (run s None left now)
TurnsTaken a b s ticks ticked free after kept (Err e) = IsBegun a b ticked

-- the same as `TurnFrom`, for all turns
abbrev pub TurnsFrom : {E : Type 0} → (CallLogs → CallLogs) → (CallLogs → CallLogs) → Engine → KeptOffsets
    → Option ℕ → (Option ℕ → AllSettings → History → Action RunResult) → Engine → KeptOffsets
    → Result Paused E → Type 0
TurnsFrom old new before offsets ticks act after kept result =
    (others : CallLogs) (s : AllSettings) (h : History) → IsAt before s h → Keeps s offsets h
    → TurnsTaken (old others) (new others) s ticks (act ticks s h) (act None s h) after kept result
