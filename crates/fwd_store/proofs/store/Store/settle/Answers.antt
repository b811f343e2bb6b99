use Rattle.std.specs.FinMap as map
use Rattle.fwd_store.proofs.Crashes.{settling, settled_is_recorded}
use Rattle.fwd_store.proofs.store.Store.settle.Goals as goal

pub returns-clause-any_moment : goal.returns-clause-any_moment
returns-clause-any_moment g c = settling _ _ (map.get c.args.self.now.chunks c.args.chunk.0) c.settle_inner.result c.args.output.now c.args.self.now.full c.settle_inner.ensures.calls

pub returns-clause-recorded : goal.returns-clause-recorded
returns-clause-recorded g c = settled_is_recorded _ _ (map.get c.args.self.now.chunks c.args.chunk.0) c.settle_inner.result c.args.output.now c.args.self.now.full c.settle_inner.ensures.calls
