use Rattle.std.proofs.Common.{ap}
use Rattle.fwd_store.specs.StoreState.{KeptMapWithRoom}
use Rattle.fwd_store.proofs.MapEntries.{taken_out}
use Rattle.fwd_store.proofs.chunk_map.ChunkMap.remove.Goals as goal

pub returns : goal.returns
returns c =
    taken_out c.args.self.now.list c.self.inside.chunks.entries c.remove.new.self.entries (ap (λ (h : KeptMapWithRoom). h.list) c.self.view_is) c.args.number
    (λ q. c.remove.ensures.updates.0 q)
