use Rattle.std.proofs.Common.{◌≡◌, take}
use Rattle.fwd_script_loop.proofs.copies.copy_of_lines.Given as goal

abbrev pub invariant-loop-line : goal.invariant-loop-line
invariant-loop-line l = l.copy.items ≡ take l.line-index l.line-items
