use Rattle.fwd_chunk.proofs.MarkedFile.{stands}
use Rattle.fwd_chunk.proofs.format_theorems.written_parts_are_read.Goals as goal

pub returns : goal.returns
returns c mark bytes meta content metadata events parts says utf8 are = stands mark bytes meta content metadata events parts says utf8 are
