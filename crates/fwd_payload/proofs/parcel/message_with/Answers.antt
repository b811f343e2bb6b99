use Rattle.std.proofs.Common.{arith}
use Rattle.fwd_payload.proofs.Ids.{id_length}
use Rattle.fwd_payload.proofs.parcel.message_with.Goals as goal

pub write_forward-requires-clause-id : goal.write_forward-requires-clause-id
write_forward-requires-clause-id c = rw (c.as_slice.ensures, c.in_ok-id.ensures, id_length c.args.chunk.0 c.args.output.0) (omega arith)
