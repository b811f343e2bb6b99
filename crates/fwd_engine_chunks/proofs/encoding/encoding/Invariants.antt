-- The bytes are the encodings of the events so far.
use Rattle.std.proofs.Common.{◌≡◌, ◌≤◌, length, take}
use Rattle.fwd_base.specs.Limits.{largest_batch}
use Rattle.fwd_event.specs.Event.{AreEvents}
use Rattle.fwd_model.specs.Chunks.{encoded}
use Rattle.fwd_engine_chunks.proofs.encoding.encoding.Given as goal

abbrev pub invariant-loop-event : goal.invariant-loop-event
invariant-loop-event l = record {
  encoding : l.bytes ≡ encoded (take l.event-index l.event-items);
  short : length l.bytes ≤ largest_batch;
  are : AreEvents (take l.event-index l.event-items) l.bytes;
}
