use Rattle.std.proofs.Common.{◌≡◌, ◌≤◌, ◌+◌, ◌-◌, ℕ, List, ◌++◌, length, drop}
use Rattle.fwd_msgpack.specs.ScanState.{skip_values}
use Rattle.fwd_msgpack.proofs.scan.small_values.Given as goal

abbrev pub invariant-loop-n : goal.invariant-loop-n
invariant-loop-n l = record {
  within : l.n ≤ l.most;
  same : (d k : ℕ) (more : List ℕ) → skip_values d (l.n + k) (l.bytes ++ more) ≡ skip_values d k (drop l.n l.bytes ++ more);
}

abbrev pub decreases-loop-n : goal.decreases-loop-n
decreases-loop-n l = l.most - l.n
