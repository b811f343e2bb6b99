use Rattle.std.specs.FinMap as map
use Rattle.fwd_store.proofs.Invariant.{sound_dropped}
use Rattle.fwd_store.proofs.Crashes.{dropping, dropped_is_gone}
use Rattle.fwd_store.proofs.store.Store.drop_chunk.Goals as goal

pub invariant_of-self : goal.invariant_of-self
invariant_of-self g c = rw (c.remove.ensures, c.close.ensures) (sound_dropped _ c.args.chunk.0 c.self.invariant)

pub returns-clause-any_moment : goal.returns-clause-any_moment
returns-clause-any_moment g c = dropping _ _ (map.get c.args.self.now.chunks c.args.chunk.0) c.remove_file-answer.result c.remove_file-answer.ensures.calls

pub returns-clause-gone : goal.returns-clause-gone
returns-clause-gone g c = dropped_is_gone _ _ (map.get c.args.self.now.chunks c.args.chunk.0) c.remove_file-answer.result c.remove_file-answer.ensures.calls
