use Rattle.std.proofs.Common.{◌≤◌, [], drop}
use Rattle.fwd_settings.specs.declared.settings_types.AllSettings.{AllSettings}
use Rattle.fwd_model.specs.Fact.{History}
use Rattle.fwd_model.specs.Trace.{Action}
use Rattle.fwd_model.specs.CallLogs.{CallLogs, Leads}
use Rattle.fwd_model.specs.KeptOffsets.{tracked, gets}
use Rattle.fwd_model.specs.Run.{RunResult}
use Rattle.fwd_theorem_trace.specs.Allowed.{IsStart}
use Rattle.fwd_engine.specs.EngineSteps.{IsAt}
use Rattle.fwd_engine_run.specs.OffsetRows.{with_keeper, Keeps}
use Rattle.fwd_engine_run.proofs.kept_offsets.KeptOffsets.get_each.Given as goal

-- the calls so far lead to the files that are left
abbrev pub invariant-loop-row : goal.invariant-loop-row
invariant-loop-row g l =
    (g.K.Keeper.faults l.fn.keeper ≤ g.K.Keeper.faults l.keeper)
    × ((others : CallLogs) (s : AllSettings) (h : History) (failed next : History → Action RunResult) → IsAt l.fn.engine s h → IsStart h → Keeps s l.fn.self [] → (now : History) × IsAt l.engine s now × IsStart now
    × Leads (with_keeper (g.K.Keeper.call_log l.fn.keeper) others) (with_keeper (g.K.Keeper.call_log l.keeper) others) (gets s (tracked s) failed next h) (gets s (drop l.row-index (tracked s)) failed next now))
