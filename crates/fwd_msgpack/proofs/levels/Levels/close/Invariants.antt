use Rattle.std.proofs.Common.{◌≡◌, ◌≤◌, length}
use Rattle.fwd_msgpack.specs.Levels.{innermost_counts, closed}
use Rattle.fwd_msgpack.proofs.levels.Levels.close.Given as goal

abbrev pub invariant-loop-self : goal.invariant-loop-self
invariant-loop-self l = record {
  same : closed (innermost_counts l.self-inside.counts.items l.self-inside.depth) ≡ closed l.fn.self;
  size : length l.self-inside.counts.items ≡ 65;
  within : l.self-inside.depth ≤ 65;
}

abbrev pub decreases-loop-self : goal.decreases-loop-self
decreases-loop-self l = l.self-inside.depth
