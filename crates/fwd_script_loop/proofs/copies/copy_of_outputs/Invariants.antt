use Rattle.std.proofs.Common.{◌≡◌, take}
use Rattle.fwd_script_loop.proofs.copies.copy_of_outputs.Given as goal

abbrev pub invariant-loop-end : goal.invariant-loop-end
invariant-loop-end l = l.copy.items ≡ take l.end-index l.end-items
