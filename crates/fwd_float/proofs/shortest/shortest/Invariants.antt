use Rattle.std.specs.Prelude.{◌≡◌, ◌+◌, ◌-◌, ◌^◌, ◌<◌, ◌≤◌, true}
use Rattle.fwd_float.specs.Cut.{IsCut}
use Rattle.fwd_float.specs.Format.{format_of}
use Rattle.fwd_float.specs.Shortest.{units, has_decimal}
use Rattle.fwd_float.proofs.shortest.shortest.Given as goal

abbrev pub invariant-up : goal.invariant-up
invariant-up l = record {
  cut : IsCut (format_of l.precision) (units (format_of l.precision) l.bits) l.cut;
  small : l.cut.digits < 2 ^ 64 - 1;
  power : (57 ≤ l.cut.before) × (l.cut.before ≤ 800);
  reads : has_decimal (format_of l.precision) l.bits (l.cut.before + 1) ≡ true;
}

abbrev pub decreases-up : goal.decreases-up
decreases-up l = 800 - l.cut.before
