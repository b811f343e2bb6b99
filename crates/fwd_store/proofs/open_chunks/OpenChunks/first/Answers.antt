use Rattle.std.proofs.Common.{◌∙◌, ap}
use Rattle.fwd_store.specs.OpenChunk.{OpenList, first_of}
use Rattle.fwd_store.proofs.OpenEntries.{first_at}
use Rattle.fwd_store.proofs.open_chunks.OpenChunks.first.Goals as goal

pub returns : goal.returns
returns c =
    first_at c.self.inside.closed c.self.inside.chunks.entries c.in_ok-chunk.field-0-0.now c.in_ok-chunk.chunk.now c.in_ok-chunk.ensures.entry
    ∙ ap (λ (o : OpenList). first_of o.list) c.self.view_is
