use Rattle.std.proofs.Common.{◌-◌, ◌≤◌}
use Rattle.std.specs.Prelude.{None}
use Rattle.fwd_settings.specs.declared.settings_types.AllSettings.{AllSettings}
use Rattle.fwd_model.specs.Fact.{History}
use Rattle.fwd_model.specs.CallLogs.{CallLogs}
use Rattle.fwd_model.specs.Run.{run}
use Rattle.fwd_engine_state.specs.LoopCounters.{EventsTaken}
use Rattle.fwd_engine_state.specs.RefinesAction.{with_all}
use Rattle.fwd_engine.specs.EngineSteps.{IsAt}
use Rattle.fwd_engine_run.specs.OffsetRows.{with_keeper, Keeps}
use Rattle.fwd_engine_run.specs.TurnsToLast.{LeadsBoth}
use Rattle.fwd_engine_run.proofs.turns.turns.Given as goal

-- This many events came, and the engine is at a point of the run with the remaining turns left.
abbrev pub invariant-loop-taken : goal.invariant-loop-taken
invariant-loop-taken g l =
    EventsTaken l.taken (g.L.Loop.counts l.fn.outside) (g.L.Loop.counts l.outside) × (g.L.Loop.faults l.fn.outside ≤ g.L.Loop.faults l.outside)
    × (g.D.Disk.faults l.fn.disk ≤ g.D.Disk.faults l.disk) × (g.F.Files.faults l.fn.files ≤ g.F.Files.faults l.files) × (g.K.Keeper.faults l.fn.keeper ≤ g.K.Keeper.faults l.keeper)
    × ((others : CallLogs) (s : AllSettings) (h : History) → IsAt l.fn.engine s h → Keeps s l.fn.offsets h → (now : History) × IsAt l.engine s now × Keeps s l.offsets now
    × LeadsBoth (with_all (g.L.Loop.call_log l.fn.outside) (g.D.Disk.call_log l.fn.disk) (g.F.Files.call_log l.fn.files) (with_keeper (g.K.Keeper.call_log l.fn.keeper) others)) (with_all (g.L.Loop.call_log l.outside) (g.D.Disk.call_log l.disk) (g.F.Files.call_log l.files) (with_keeper (g.K.Keeper.call_log l.keeper) others)) (run s l.ticks l.most h) (run s None l.most h) (run s l.ticks (l.most - l.taken) now) (run s None (l.most - l.taken) now))
