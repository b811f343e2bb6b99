use Rattle.std.proofs.Common.{◌≡◌, ◌≤◌, length}
use Rattle.std.specs.Prelude.{is_some}
use Rattle.std.specs.List.{All}
use Rattle.std.specs.Vec.Iter.{into_iter_items, into_iter_len}
use Rattle.fwd_wire.specs.Fits.{ContentFits}
use Rattle.fwd_in_forward.specs.Received.{all_received, KeepsEncodings}
use Rattle.fwd_model.specs.Fact.{History}
use Rattle.fwd_model.specs.CallLogs.{CallLogs, Leads}
use Rattle.fwd_model.specs.InputActions.{accepts_messages}
use Rattle.fwd_engine_state.specs.RefinesAction.{with_both}
use Rattle.fwd_engine_state.specs.LoopCounters.{NoEventTaken}
use Rattle.fwd_engine_state.specs.PartsRepresent.{PartsRepresentIdle}
use Rattle.fwd_engine_ingest.specs.Continuation.{TagsAreShort}
use Rattle.fwd_engine_ingest.proofs.messages.receive_all.Given as goal

abbrev pub invariant-loop-message : goal.invariant-loop-message
invariant-loop-message g l =
    NoEventTaken (g.L.Loop.counts l.fn.outside) (g.L.Loop.counts l.outside)
    × (g.L.Loop.faults l.fn.outside ≤ g.L.Loop.faults l.outside)
    × (g.D.Disk.faults l.fn.disk ≤ g.D.Disk.faults l.disk)
    × (into_iter_len l.message-iterator ≡ length (into_iter_items l.message-iterator))
    × All ContentFits (all_received (into_iter_items l.message-iterator))
    × All KeepsEncodings (into_iter_items l.message-iterator)
    × (TagsAreShort (all_received l.fn.arrived.messages) → TagsAreShort (all_received (into_iter_items l.message-iterator))
    × ((others : CallLogs) (h : History) → PartsRepresentIdle l.run l.fn.parts h → (now : History) × PartsRepresentIdle l.run l.parts now
    × Leads (with_both (g.L.Loop.call_log l.fn.outside) (g.D.Disk.call_log l.fn.disk) others) (with_both (g.L.Loop.call_log l.outside) (g.D.Disk.call_log l.disk) others)
    (accepts_messages l.run l.input.0 l.conn.0 (is_some l.fault) (all_received l.fn.arrived.messages) h) (accepts_messages l.run l.input.0 l.conn.0 (is_some l.fault) (all_received (into_iter_items l.message-iterator)) now)))
