use Rattle.std.specs.Prelude.{◌-◌, ◌≤◌}
use Rattle.fwd_float.proofs.window.raised.Given as goal

abbrev pub invariant-up : goal.invariant-up
invariant-up l = l.power ≤ 800

abbrev pub decreases-up : goal.decreases-up
decreases-up l = 800 - l.power
