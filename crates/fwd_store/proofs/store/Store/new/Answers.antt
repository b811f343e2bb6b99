use Rattle.fwd_store.proofs.Invariant.{sound_new}
use Rattle.fwd_store.proofs.store.Store.new.Goals as goal

pub invariant_of-result : goal.invariant_of-result
invariant_of-result c = rw (c.new.ensures, c.new-2.ensures) (sound_new c.args.root c.args.full c.args.next c.requires)
