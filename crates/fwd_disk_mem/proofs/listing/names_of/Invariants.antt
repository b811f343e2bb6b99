use Rattle.std.proofs.Common.{◌≡◌, take}
use Rattle.fwd_disk_mem.proofs.listing.names_of.Given as goal

abbrev pub invariant-loop-name : goal.invariant-loop-name
invariant-loop-name l = l.names ≡ take l.name-index l.all
