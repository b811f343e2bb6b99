use Rattle.fwd_wire.proofs.Computed.{streams_exactly}
use Rattle.fwd_wire.proofs.theorems.streams_are_read.Goals as goal

pub returns : goal.returns
returns c = streams_exactly
