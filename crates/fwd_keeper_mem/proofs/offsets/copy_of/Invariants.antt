use Rattle.std.proofs.Common.{◌≡◌, take}
use Rattle.fwd_keeper_mem.proofs.offsets.copy_of.Given as goal

abbrev pub invariant-loop-db : goal.invariant-loop-db
invariant-loop-db l = l.copy.items ≡ take l.db-index l.offsets
