use Rattle.std.proofs.Common.{ap, sym, ◌∙◌}
use Rattle.std.specs.FinMap as map
use Rattle.fwd_store.specs.StoreState.{KeptMapWithRoom}
use Rattle.fwd_store.proofs.MapEntries.{get_held}
use Rattle.fwd_store.proofs.chunk_map.ChunkMap.get.Goals as goal

pub returns : goal.returns
returns c =
    c.get.ensures.value ∙ sym (get_held c.self.inside.chunks.entries c.args.number) ∙ ap (λ (h : KeptMapWithRoom). map.get h.list c.args.number) c.self.view_is
