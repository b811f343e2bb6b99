use Rattle.std.proofs.Common.{◌≡◌, drop, is_none}
use Rattle.fwd_script_loop.specs.FirstMatch.{first_in}
use Rattle.fwd_script_loop.specs.Lines.{coming}
use Rattle.fwd_script_loop.proofs.lines_left.is_last_with_event.Given as goal

abbrev pub invariant-loop-i : goal.invariant-loop-i
invariant-loop-i l = is_none (first_in (coming l.from (drop l.from l.lines))) ≡ is_none (first_in (coming l.i (drop l.i l.lines)))
