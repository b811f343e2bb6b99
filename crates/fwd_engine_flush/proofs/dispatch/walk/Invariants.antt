use Rattle.std.proofs.Common.{◌≤◌}
use Rattle.fwd_model.specs.Fact.{History}
use Rattle.fwd_model.specs.CallLogs.{CallLogs, Leads}
use Rattle.fwd_model.specs.FlushActions.{walk}
use Rattle.fwd_engine_state.specs.LoopCounters.{NoEventTaken}
use Rattle.fwd_engine_state.specs.RefinesAction.{with_both}
use Rattle.fwd_engine_state.specs.PartsRepresent.{PartsRepresentIdle}
use Rattle.fwd_engine_flush.proofs.WalkOrder.{IsPast, left, timers_behind}
use Rattle.fwd_engine_flush.proofs.dispatch.walk.Given as goal

-- the reference model has come to the last route, and the parts represent its history
abbrev pub invariant-dispatch : goal.invariant-dispatch
invariant-dispatch g l = record {
  unheard : NoEventTaken (g.L.Loop.counts l.fn.outside) (g.L.Loop.counts l.outside);
  later : g.L.Loop.faults l.fn.outside ≤ g.L.Loop.faults l.outside;
  disk_later : g.D.Disk.faults l.fn.disk ≤ g.D.Disk.faults l.disk;
  damaged : l.fn.parts.state.damaged ≤ l.parts.state.damaged;
  walked : (others : CallLogs) (h : History) → PartsRepresentIdle l.run l.fn.parts h → (now : History) × PartsRepresentIdle l.run l.parts now × IsPast l.run h l.last now
      × Leads (with_both (g.L.Loop.call_log l.fn.outside) (g.D.Disk.call_log l.fn.disk) others) (with_both (g.L.Loop.call_log l.outside) (g.D.Disk.call_log l.disk) others) (walk l.run h) (left l.run h l.last now);
}

abbrev pub decreases-dispatch : goal.decreases-dispatch
decreases-dispatch g l = timers_behind l.last
