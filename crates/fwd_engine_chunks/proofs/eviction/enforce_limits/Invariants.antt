use Rattle.std.proofs.Common.{◌≤◌, map, drop}
use Rattle.fwd_model.specs.Fact.{History}
use Rattle.fwd_model.specs.CallLogs.{CallLogs, Leads}
use Rattle.fwd_model.specs.CloseActions.{loses}
use Rattle.fwd_engine_state.specs.Evictions.{evictions_left}
use Rattle.fwd_engine_state.specs.PartsRepresent.{PartsRepresentIdle}
use Rattle.fwd_engine_state.specs.RefinesAction.{with_disk}
use Rattle.fwd_engine_chunks.specs.Evictions.{IsIdleToEach}
use Rattle.fwd_engine_chunks.proofs.eviction.enforce_limits.Given as goal

abbrev pub invariant-loop-output : goal.invariant-loop-output
invariant-loop-output g l =
    (g.D.Disk.faults l.fn.disk ≤ g.D.Disk.faults l.disk)
    × ((others : CallLogs) (h : History) → PartsRepresentIdle l.run l.fn.parts h → IsIdleToEach l.run h l.chunk.0 (map (λ output. output.0) l.outputs)
    → (now : History) × PartsRepresentIdle l.run l.parts now × IsIdleToEach l.run now l.chunk.0 (map (λ output. output.0) (drop l.output-index l.outputs))
    × Leads (with_disk (g.D.Disk.call_log l.fn.disk) others) (with_disk (g.D.Disk.call_log l.disk) others)
    (loses l.run (evictions_left l.run h l.chunk.0 (map (λ output. output.0) l.outputs)) h)
    (loses l.run (evictions_left l.run now l.chunk.0 (map (λ output. output.0) (drop l.output-index l.outputs))) now))
