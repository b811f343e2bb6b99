use Rattle.std.proofs.Common.{◌≤◌, map, drop}
use Rattle.fwd_model.specs.Fact.{History}
use Rattle.fwd_model.specs.CallLogs.{CallLogs, Leads}
use Rattle.fwd_model.specs.CloseActions.{closes_all}
use Rattle.fwd_engine_state.specs.PartsRepresent.{PartsRepresentIdle}
use Rattle.fwd_engine_state.specs.RefinesAction.{with_disk}
use Rattle.fwd_engine_chunks.proofs.ClosedChunks.{closes_by, AreOpen}
use Rattle.fwd_engine_chunks.proofs.closing.close_all.Given as goal

abbrev pub invariant-loop-chunk : goal.invariant-loop-chunk
invariant-loop-chunk g l =
    (g.D.Disk.faults l.fn.disk ≤ g.D.Disk.faults l.disk)
    × ((others : CallLogs) (h : History) → PartsRepresentIdle l.run l.fn.parts h → (now : History) × PartsRepresentIdle l.run l.parts now × AreOpen now (map (λ chunk. chunk.0) (drop l.chunk-index l.chunk-items))
    × Leads (with_disk (g.D.Disk.call_log l.fn.disk) others) (with_disk (g.D.Disk.call_log l.disk) others) (closes_all l.run h) (closes_by l.run (map (λ chunk. chunk.0) (drop l.chunk-index l.chunk-items)) now))
