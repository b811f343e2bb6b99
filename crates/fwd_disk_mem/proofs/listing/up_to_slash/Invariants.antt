use Rattle.std.proofs.Common.{take, Contains}
use Rattle.fwd_disk_mem.proofs.listing.up_to_slash.Given as goal

abbrev pub invariant-loop-i : goal.invariant-loop-i
invariant-loop-i l = Contains (take l.i l.bytes) 47 → ⊥
