use Rattle.fwd_wire.proofs.Computed.{answers_exactly}
use Rattle.fwd_wire.proofs.theorems.answers_are_read.Goals as goal

pub returns : goal.returns
returns c = answers_exactly
