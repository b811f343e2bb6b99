use Rattle.std.proofs.Common.{take}
use Rattle.std.specs.Prelude.{All}
use Rattle.fwd_event.specs.Event.{EventFits}
use Rattle.fwd_test_outputs.proofs.payloads.can_write_all.Given as goal

abbrev pub invariant-loop-event : goal.invariant-loop-event
invariant-loop-event l = All EventFits (take l.event-index l.event-items)
