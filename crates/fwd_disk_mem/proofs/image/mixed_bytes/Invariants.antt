use Rattle.std.proofs.Common.{◌≡◌, take}
use Rattle.fwd_disk_mem.specs.Images.{mixed}
use Rattle.fwd_disk_mem.proofs.image.mixed_bytes.Given as goal

abbrev pub invariant-loop-i : goal.invariant-loop-i
invariant-loop-i l = l.new.items ≡ mixed l.base l.at (take l.i l.bytes)
