use Rattle.std.proofs.Common.{◌≡◌, ◌≤◌, length, drop}
use Rattle.fwd_settings.specs.declared.settings_types.AllSettings.{AllSettings}
use Rattle.fwd_model.specs.Fact.{History}
use Rattle.fwd_model.specs.Trace.{Action}
use Rattle.fwd_model.specs.CallLogs.{CallLogs, Leads}
use Rattle.fwd_model.specs.KeptOffsets.{tracked, puts}
use Rattle.fwd_model.specs.Run.{RunResult}
use Rattle.fwd_engine.specs.EngineSteps.{IsAt}
use Rattle.fwd_engine_run.specs.OffsetRows.{with_keeper, IsOverAlike, Keeps}
use Rattle.fwd_engine_run.proofs.kept_offsets.KeptOffsets.put.Given as goal

-- the calls so far lead to the files that are left
abbrev pub invariant-loop-at : goal.invariant-loop-at
invariant-loop-at g l =
    (g.K.Keeper.faults l.fn.keeper ≤ g.K.Keeper.faults l.keeper) × (length l.self.rows.items ≡ length l.fn.self.rows.items)
    × ((others : CallLogs) (s : AllSettings) (h : History) (next : History → Action RunResult) → IsAt l.engine s h → Keeps s l.fn.self h → (now : History) × IsAt l.engine s now × Keeps s l.self now × IsOverAlike s h now
    × Leads (with_keeper (g.K.Keeper.call_log l.fn.keeper) others) (with_keeper (g.K.Keeper.call_log l.keeper) others) (puts s (tracked s) next h) (puts s (drop l.at (tracked s)) next now))
