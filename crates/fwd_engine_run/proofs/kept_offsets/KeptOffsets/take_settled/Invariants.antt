use Rattle.std.proofs.Common.{◌≡◌, [], length}
use Rattle.fwd_settings.specs.declared.settings_types.AllSettings.{AllSettings}
use Rattle.fwd_model.specs.Fact.{History}
use Rattle.fwd_theorem_trace.specs.Allowed.{IsStart}
use Rattle.fwd_engine.specs.EngineSteps.{IsAt}
use Rattle.fwd_engine_run.specs.OffsetRows.{Keeps}
use Rattle.fwd_engine_run.proofs.Rows.{KeepsBelow}
use Rattle.fwd_engine_run.proofs.kept_offsets.KeptOffsets.take_settled.Given as goal

-- the rows so far have the settled offsets
abbrev pub invariant-loop-at : goal.invariant-loop-at
invariant-loop-at l =
    (length l.self.rows.items ≡ length l.fn.self.rows.items)
    × ((s : AllSettings) (h : History) → IsAt l.engine s h → IsStart h → Keeps s l.fn.self [] → KeepsBelow s l.self h l.at)
