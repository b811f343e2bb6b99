use Rattle.fwd_keeper_mem.proofs.OffsetTable.{has_put, has_pushed}
use Rattle.fwd_keeper_mem.proofs.offsets.set.Goals as goal

pub returns-in-Some-clause-ok : goal.returns-in-Some-clause-ok
returns-in-Some-clause-ok c =
    has_put c.args.offsets.now.items c.deref.result.now c.args.db.now c.args.path.now c.deref.ensures.value c.in-Some.index c.index_mut.result.now c.args.place c.in-Some.ensures c.index_mut.ensures.value

pub returns-in_ok-push-in-None-clause-ok : goal.returns-in_ok-push-in-None-clause-ok
returns-in_ok-push-in-None-clause-ok c =
    has_pushed c.args.offsets.now.items c.deref.result.now c.args.db.now c.args.path.now c.deref.ensures.value _ _ c.args.place c.push.new.self.items c.in-None.ensures c.in_ok-from_slice-in-None.ensures c.in_ok-from_slice-in-None-2.ensures c.in_ok-push-in-None.ensures.items
