use Rattle.std.proofs.Common.{◌≡◌, drop, find}
use Rattle.fwd_script_loop.specs.PauseMask.{hears}
use Rattle.fwd_script_loop.specs.Lines.{coming, place_in}
use Rattle.fwd_script_loop.proofs.lines_left.unpaused_from.Given as goal

abbrev pub invariant-loop-i : goal.invariant-loop-i
invariant-loop-i l = place_in (find (hears l.paused) (coming l.from (drop l.from l.lines))) ≡ place_in (find (hears l.paused) (coming l.i (drop l.i l.lines)))
