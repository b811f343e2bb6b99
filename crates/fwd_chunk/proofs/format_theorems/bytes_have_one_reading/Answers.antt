use Rattle.fwd_chunk.proofs.FormatMatch.{stands_exactly}
use Rattle.fwd_chunk.proofs.format_theorems.bytes_have_one_reading.Goals as goal

pub returns : goal.returns
returns c = stands_exactly
