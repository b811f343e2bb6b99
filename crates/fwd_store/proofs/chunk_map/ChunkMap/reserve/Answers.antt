use Rattle.std.proofs.Common.{ap}
use Rattle.fwd_store.specs.StoreState.{KeptMapWithRoom}
use Rattle.fwd_store.proofs.MapEntries.{as_before}
use Rattle.fwd_store.proofs.chunk_map.ChunkMap.reserve.Goals as goal

pub returns-clause-same : goal.returns-clause-same
returns-clause-same c =
    as_before c.args.self.now.list c.self.inside.chunks.entries c.reserve.new.self.entries (ap (λ (h : KeptMapWithRoom). h.list) c.self.view_is) (λ q. c.reserve.ensures.entries.2 q)
