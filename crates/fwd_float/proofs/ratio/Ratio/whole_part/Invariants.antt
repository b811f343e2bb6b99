use Rattle.std.specs.Prelude.{◌/◌, ◌-◌, ◌<◌, ◌≤◌}
use Rattle.fwd_float.proofs.ratio.Ratio.whole_part.Given as goal

abbrev pub invariant-loop-high : goal.invariant-loop-high
invariant-loop-high l = (l.low ≤ l.self.above / l.self.under) × (l.self.above / l.self.under < l.high)

abbrev pub decreases-loop-high : goal.decreases-loop-high
decreases-loop-high l = l.high - l.low
