use Rattle.std.proofs.Common.{ap, ◌∙◌}
use Rattle.fwd_chunk.specs.Metadata.{parse_named, with_tag}
use Rattle.fwd_chunk.proofs.NamedMetadata.{named_were, named_back}
use Rattle.fwd_chunk.proofs.format_theorems.named_metadata_are_read.Goals as goal

pub returns : goal.returns
returns c = λ meta tag outputs. (named_were meta (with_tag tag outputs), λ h. ap parse_named h.0 ∙ named_back tag outputs h.1 h.2)
