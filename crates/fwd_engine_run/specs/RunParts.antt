-- The parts of a run that can be stopped by its last tick: up to its end or to that tick, and on from there.
use Rattle.std.specs.Prelude.{ℕ, ◌-◌, List, Option, Some, None, Result, Ok, Err}
use Rattle.fwd_outside.specs.Program.{Return, Execution}
use Rattle.fwd_outside.specs.declared.ends.Ends.{Ends}
use Rattle.fwd_outside.specs.declared.happening.Happening.TheVariants as happening
use Rattle.fwd_settings.specs.declared.settings_types.AllSettings.{AllSettings}
use Rattle.fwd_model.specs.Fact.{History}
use Rattle.fwd_model.specs.Trace.{TraceEntry}
use Rattle.fwd_model.specs.CallLogs.{CallLogs, LogsGrew, IsBegun}
use Rattle.fwd_model.specs.Run.{lived, run, after_recovery, steps_on}
use Rattle.fwd_engine.specs.EngineSteps.{IsAt}
use Rattle.fwd_engine.specs.declared.engine.Engine.{Engine}
use Rattle.fwd_engine_run.specs.OffsetRows.{Keeps}
use Rattle.fwd_engine_run.specs.RunOutcome.{IsAtEnd, end_of, heard_in}
use Rattle.fwd_engine_run.specs.declared.kept_offsets.KeptOffsets.{KeptOffsets}
use Rattle.fwd_engine_run.specs.declared.run_loop.RunEnd.{RunEnd}
use Rattle.fwd_engine_run.specs.declared.run_parts.Paused.{Paused}
use Rattle.fwd_engine_run.specs.declared.run_parts.Paused.TheVariants as paused

-- The run ended before its last tick. The calls are also those of a run without a number of ticks.
pub record EndsBeforeLast (a b : CallLogs) (s : AllSettings) (ends : Ends) (ticks : Option ℕ) (turns : ℕ) (h : History)
    (after : Engine) (end : RunEnd) : Type 0 where
  pub history : History
  pub entries : List TraceEntry
  pub asked : LogsGrew a b entries
  pub with_ticks : Execution (after_recovery s ends ticks turns (Some h)) entries (Return (lived history (end_of end)))
  pub without : Execution (after_recovery s ends None turns (Some h)) entries (Return (lived history (end_of end)))
  pub at : IsAtEnd after s history end

-- The run is at its last tick, with so many turns left: it stops now. A run without a number of ticks makes the same
-- calls up to here, and goes on.
pub record PausesAtLast (a b : CallLogs) (s : AllSettings) (ends : Ends) (ticks : Option ℕ) (turns : ℕ) (h : History)
    (after : Engine) (kept : KeptOffsets) (left : ℕ) : Type 0 where
  pub now : History
  pub entries : List TraceEntry
  pub asked : LogsGrew a b entries
  pub with_ticks : Execution (after_recovery s ends ticks turns (Some h)) entries (steps_on s (run s ticks left) happening.Stop now)
  pub without : Execution (after_recovery s ends None turns (Some h)) entries (run s None left now)
  pub at : IsAt after s now
  pub keeps : Keeps s kept now

abbrev pub RunsToLast : {E : Type 0} → CallLogs → CallLogs → AllSettings → Ends → Option ℕ → ℕ → History → Engine
    → KeptOffsets → Result Paused E → Type 0
RunsToLast a b s ends ticks turns h after kept (Ok (paused.Ended end)) =
    EndsBeforeLast a b s ends ticks turns h after end
RunsToLast a b s ends ticks turns h after kept (Ok (paused.AtLast left)) =
    PausesAtLast a b s ends ticks turns h after kept left
RunsToLast a b s ends ticks turns h after kept (Err e) = IsBegun a b (after_recovery s ends ticks turns (Some h))

-- how many events a run was given up to its end or to its last tick
abbrev pub heard_to_last : {E : Type 0} → ℕ → Result Paused E → ℕ
heard_to_last {E = E} most (Ok (paused.Ended end)) = heard_in {E = E} most (Ok end)
heard_to_last most (Ok (paused.AtLast left)) = most - left
heard_to_last most (Err e) = 0
