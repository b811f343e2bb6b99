-- A run in its parts: up to its end or to its last tick, the stop there, and on to its end.
use Rattle.std.proofs.Common.{ℕ, Option, Some, Result, Ok, Err, None, sym, subst}
use Rattle.fwd_outside.specs.declared.ends.Ends.{Ends}
use Rattle.fwd_outside.specs.declared.happening.Happening.TheVariants as happening
use Rattle.fwd_settings.specs.declared.settings_types.AllSettings.{AllSettings}
use Rattle.fwd_model.specs.Fact.{History}
use Rattle.fwd_model.specs.Trace.{Action}
use Rattle.fwd_model.specs.CallLogs.{CallLogs}
use Rattle.fwd_model.specs.Run.{RunResult, after_recovery, steps_on, run}
use Rattle.fwd_engine.specs.declared.engine.Engine.{Engine}
use Rattle.fwd_engine_run.specs.RunOutcome.{RanToEnd, RunOutcome}
use Rattle.fwd_engine_run.specs.RunParts.{EndsBeforeLast, PausesAtLast, RunsToLast}
use Rattle.fwd_engine_run.specs.TurnsToLast.{TurnsTaken}
use Rattle.fwd_engine_run.specs.declared.kept_offsets.KeptOffsets.{KeptOffsets}
use Rattle.fwd_engine_run.specs.declared.run_loop.RunEnd.{RunEnd}
use Rattle.fwd_engine_run.specs.declared.run_parts.Paused.{Paused}
use Rattle.fwd_engine_run.specs.declared.run_parts.Paused.TheVariants as paused
use Rattle.fwd_engine_run.proofs.RunTurns.{runs_after}
use Rattle.fwd_engine_run.proofs.StoppedRuns.{stop_counts_no_ticks}
use Rattle.fwd_engine_run.proofs.TurnsToLast.{with_ticks_alone}

module _ (a b : CallLogs) (s : AllSettings) (ends : Ends) (ticks : Option ℕ) (turns : ℕ) (h : History) where
  -- all turns, after recovery
  pub to_last : {E : Type 0} (after : Engine) (kept : KeptOffsets) (result : Result Paused E)
      → TurnsTaken a b s ticks (after_recovery s ends ticks turns (Some h)) (after_recovery s ends None turns (Some h)) after kept result → RunsToLast a b s ends ticks turns h after kept result
  to_last after kept (Ok (paused.Ended end)) f = record { history = f.0; entries = f.2.entries; asked = f.2.asked; with_ticks = f.2.with_ticks; without = f.2.without; at = f.1 }
  to_last after kept (Ok (paused.AtLast left)) f = record { now = f.0; entries = f.3.entries; asked = f.3.asked; with_ticks = f.3.with_ticks; without = f.3.without; at = f.1; keeps = f.2 }
  to_last after kept (Err e) f = f

  pub ends_run : (after : Engine) (end : RunEnd) → EndsBeforeLast a b s ends ticks turns h after end → RanToEnd a b s (after_recovery s ends ticks turns (Some h)) after end
  ends_run after end f = record { history = f.history; did = record { entries = f.entries; asked = f.asked; way = f.with_ticks }; at = f.at }

  -- the stop at the last tick, and what follows it
  pub finishes_run : {E : Type 0} (c : CallLogs) (at_last after : Engine) (kept : KeptOffsets) (left : ℕ) (result : Result RunEnd E) (f : PausesAtLast a b s ends ticks turns h at_last kept left)
      → RunOutcome b c s (steps_on s (run s None left) happening.Stop f.now) after result → RunOutcome a c s (after_recovery s ends ticks turns (Some h)) after result
  finishes_run c at_last after kept left result f g =
      runs_after a b c s (after_recovery s ends ticks turns (Some h)) (steps_on s (run s ticks left) happening.Stop f.now) after result (record { entries = f.entries; asked = f.asked; way = f.with_ticks })
      (subst (λ (p : Action RunResult). RunOutcome b c s p after result) (sym (stop_counts_no_ticks s ticks left f.now)) g)

-- a run without a number of ticks
pub ended_alone : (a b : CallLogs) (s : AllSettings) (p q : Action RunResult) (after : Engine) (kept : KeptOffsets) (end : RunEnd) → TurnsTaken {E = Unit {0}} a b s None p q after kept (Ok (paused.Ended end)) → RanToEnd a b s p after end
ended_alone a b s p q after kept end f = record { history = f.0; did = with_ticks_alone f.2; at = f.1 }
