use Rattle.std.proofs.Common.{◌-◌, ◌^◌, ◌≤◌, min, take, length, All}
use Rattle.fwd_event.specs.Event.{EventFits}
use Rattle.fwd_model.specs.Chunks.{encoded}
use Rattle.fwd_payload.proofs.sizes.fits_every_output.Given as goal

-- the events so far can be encoded, and their encodings aren't longer than the bound
abbrev pub invariant-loop-event : goal.invariant-loop-event
invariant-loop-event l = record {
  fits : All EventFits (take l.event-index l.event-items);
  size : min (length (encoded (take l.event-index l.event-items))) (2 ^ 64 - 1) ≤ l.total;
}
