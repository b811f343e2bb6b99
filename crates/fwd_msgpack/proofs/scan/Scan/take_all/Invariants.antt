use Rattle.std.proofs.Common.{◌≡◌, ◌≤◌, ℕ, List, ◌++◌, length}
use Rattle.fwd_msgpack.specs.ScanState.{IsOpen, outcome_of}
use Rattle.fwd_msgpack.proofs.scan.Scan.take_all.Given as goal

abbrev pub invariant-loop-self : goal.invariant-loop-self
invariant-loop-self l = record {
  wanting : IsOpen l.self;
  within : length l.rest ≤ length l.bytes;
  seen : l.self.seen ≡ l.fn.self.seen;
  same : (more : List ℕ) → outcome_of l.self (l.rest ++ more) ≡ outcome_of l.fn.self (l.bytes ++ more);
}

abbrev pub decreases-loop-self : goal.decreases-loop-self
decreases-loop-self l = length l.rest
