use Rattle.std.proofs.Common.{◌≡◌, ◌+◌, drop}
use Rattle.fwd_disk_mem.specs.Images.{reach}
use Rattle.fwd_disk_mem.proofs.image.reach_of.Given as goal

abbrev pub invariant-loop-i : goal.invariant-loop-i
invariant-loop-i l = reach l.fn.n l.calls ≡ l.i + reach l.left (drop l.i l.calls)
