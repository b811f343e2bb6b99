use Rattle.std.proofs.Common.{◌≤◌, ◌-◌, length, take}
use Rattle.fwd_event.specs.Event.{AreEvents}
use Rattle.fwd_event.proofs.reading.read_events.Given as goal

abbrev pub invariant-loop-at : goal.invariant-loop-at
invariant-loop-at l = record {
  within : l.at ≤ length l.bytes;
  are : AreEvents l.events (take l.at l.bytes);
}

abbrev pub decreases-loop-at : goal.decreases-loop-at
decreases-loop-at l = length l.bytes - l.at
