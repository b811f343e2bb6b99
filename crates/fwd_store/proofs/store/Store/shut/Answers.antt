use Rattle.fwd_store.proofs.Invariant.{sound_sealed}
use Rattle.fwd_store.proofs.store.Store.shut.Goals as goal

pub invariant_of-self : goal.invariant_of-self
invariant_of-self c = rw c.close.ensures (sound_sealed _ c.args.chunk.0 c.self.invariant)
