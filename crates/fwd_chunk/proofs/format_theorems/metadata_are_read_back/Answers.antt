use Rattle.std.proofs.Common.{ap}
use Rattle.fwd_chunk.specs.Metadata.{said_named}
use Rattle.fwd_chunk.proofs.NamedMetadata.{named_back}
use Rattle.fwd_chunk.proofs.format_theorems.metadata_are_read_back.Goals as goal

pub returns-clause-named : goal.returns-clause-named
returns-clause-named c = λ tag outputs short are. ap said_named (named_back tag outputs short are)
