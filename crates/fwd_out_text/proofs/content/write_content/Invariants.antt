use Rattle.std.proofs.Common.{◌≡◌, ◌≤◌, ◌-◌, ◌++◌, List, length, take}
use Rattle.fwd_event.specs.declared.event.Event.{Event}
use Rattle.fwd_event.specs.Event.{AreEvents}
use Rattle.fwd_out_text.specs.Payload.{payload_of}
use Rattle.fwd_out_text.proofs.content.write_content.Given as goal

abbrev pub invariant-loop-at : goal.invariant-loop-at
invariant-loop-at l = record {
  within : l.at ≤ length l.content;
  written : (events : List Event) × AreEvents events (take l.at l.content) × (l.out ≡ l.fn.out ++ payload_of l.form l.tag events);
}

abbrev pub decreases-loop-at : goal.decreases-loop-at
decreases-loop-at l = length l.content - l.at
