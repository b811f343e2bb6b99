use Rattle.fwd_chunk.proofs.EnoughBytes.{part_is_seen}
use Rattle.fwd_chunk.proofs.format_theorems.prefix_determines_reading.Goals as goal

pub returns : goal.returns
returns c = part_is_seen
