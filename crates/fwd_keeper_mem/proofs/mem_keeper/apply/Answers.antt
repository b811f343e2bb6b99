use Rattle.std.proofs.Common.{refl}
use Rattle.fwd_keeper_mem.proofs.NotesKept.{set_by, kept_by}
use Rattle.fwd_keeper_mem.proofs.mem_keeper.apply.Goals as goal

pub returns-in-Some-clause-ok : goal.returns-in-Some-clause-ok
returns-in-Some-clause-ok c =
    set_by c.args.note.now _ _ _ _ c.args.offsets.now.items c.set.new.offsets.items c.in-Put.is c.set.result _ _ _ c.in-Some.is c.as_slice.ensures c.as_slice-in-Some.ensures c.set.ensures.ok

pub returns-in-None-clause-ok : goal.returns-in-None-clause-ok
returns-in-None-clause-ok c = kept_by c.args.note.now _ _ _ _ c.args.offsets.now.items c.args.offsets.now.items c.in-Put.is c.in-None.is (λ db path. refl)
