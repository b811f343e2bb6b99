use Rattle.fwd_chunk.proofs.DurableContent.{settled_stands, settled_is_kept}
use Rattle.fwd_chunk.proofs.content_theorems.durable_content_is_read.Goals as goal

pub returns-clause-stands : goal.returns-clause-stands
returns-clause-stands c = settled_stands

pub returns-clause-kept : goal.returns-clause-kept
returns-clause-kept c = settled_is_kept
