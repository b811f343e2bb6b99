use Rattle.std.proofs.Common.{sym}
use Rattle.fwd_keeper_mem.proofs.OffsetTable.{found_at, not_found}
use Rattle.fwd_keeper_mem.proofs.offsets.offset_of.Goals as goal

pub returns-in-Some : goal.returns-in-Some
returns-in-Some c =
    let found = found_at c.args.offsets.now c.args.db.now c.args.path.now c.in-Some.index _ (sym c.in-Some.ensures) in
    sym found

pub returns-in-None : goal.returns-in-None
returns-in-None c = sym (not_found c.args.offsets.now c.args.db.now c.args.path.now (sym c.in-None.ensures))
