use Rattle.std.proofs.Common.{ap}
use Rattle.fwd_store.specs.StoreState.{KeptMapWithRoom}
use Rattle.fwd_store.proofs.MapEntries.{put_in}
use Rattle.fwd_store.proofs.Results.{value_of}
use Rattle.fwd_store.proofs.chunk_map.ChunkMap.insert.Goals as goal

pub returns : goal.returns
returns c =
    put_in c.args.self.now.list c.self.inside.chunks.entries c.insert-inserted.new.self.entries (ap (λ (h : KeptMapWithRoom). h.list) c.self.view_is) c.args.number c.args.kept
    (λ q. (value_of c.insert-inserted.result c.unwrap.result c.unwrap.ensures c.insert-inserted.ensures.updates).0 q)
