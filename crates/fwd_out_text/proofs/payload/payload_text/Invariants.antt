use Rattle.std.proofs.Common.{◌≡◌, take}
use Rattle.std.specs.List.{flat_map}
use Rattle.fwd_out_text.specs.Payload.{record_of}
use Rattle.fwd_out_text.proofs.payload.payload_text.Given as goal

abbrev pub invariant-loop-event : goal.invariant-loop-event
invariant-loop-event l = l.payload ≡ flat_map (record_of l.form l.tag) (take l.event-index l.event-items)
