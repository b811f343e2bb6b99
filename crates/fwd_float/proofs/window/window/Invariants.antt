use Rattle.std.specs.Prelude.{◌^◌, ◌-◌, ◌≤◌, ◌<◌}
use Rattle.fwd_float.specs.Format.{format_of}
use Rattle.fwd_float.specs.Ratio.{units_of}
use Rattle.fwd_float.specs.Shortest.{digits_below}
use Rattle.fwd_float.proofs.window.window.Given as goal

abbrev pub invariant-down : goal.invariant-down
invariant-down l = record {
  power : l.power ≤ 800;
  small : digits_below (format_of l.precision) (units_of l.size) l.power < 2 ^ 64 - 1;
}

abbrev pub decreases-down : goal.decreases-down
decreases-down l = l.power
