use Rattle.std.proofs.Common.{◌≡◌, ◌≤◌, ◌+◌, true, length, Some}
use Rattle.fwd_model.specs.Fact.{History}
use Rattle.fwd_model.specs.CallLogs.{CallLogs, Leads}
use Rattle.fwd_model.specs.Routes.{route, is_idle}
use Rattle.fwd_model.specs.Limits.{evictions_to}
use Rattle.fwd_model.specs.CloseActions.{loses}
use Rattle.fwd_engine_state.specs.PartsRepresent.{PartsRepresentIdle}
use Rattle.fwd_engine_state.specs.RefinesAction.{with_disk}
use Rattle.fwd_engine_chunks.proofs.eviction.evict_to_limit.Given as goal

abbrev pub invariant-loop-turn : goal.invariant-loop-turn
invariant-loop-turn g l =
    (g.D.Disk.faults l.fn.disk ≤ g.D.Disk.faults l.disk)
    × ((others : CallLogs) (h : History) → PartsRepresentIdle l.run l.fn.parts h → is_idle l.run h (route l.chunk.0 l.output.0) ≡ true
    → (now : History) × PartsRepresentIdle l.run l.parts now × (is_idle l.run now (route l.chunk.0 l.output.0) ≡ true)
    × (length (evictions_to l.run now l.chunk.0 l.output.0 (Some l.limit)) + l._turn ≤ l.turns)
    × Leads (with_disk (g.D.Disk.call_log l.fn.disk) others) (with_disk (g.D.Disk.call_log l.disk) others)
    (loses l.run (evictions_to l.run h l.chunk.0 l.output.0 (Some l.limit)) h) (loses l.run (evictions_to l.run now l.chunk.0 l.output.0 (Some l.limit)) now))
