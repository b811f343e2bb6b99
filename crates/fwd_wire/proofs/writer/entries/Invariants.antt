use Rattle.std.proofs.Common.{◌≡◌, take}
use Rattle.fwd_wire.specs.Encode.{entry_bytes}
use Rattle.fwd_wire.proofs.writer.entries.Given as goal

abbrev pub invariant-loop-event : goal.invariant-loop-event
invariant-loop-event l = l.bytes ≡ entry_bytes l.whole_time (take l.event-index l.event-items)
