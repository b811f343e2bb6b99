use Rattle.std.proofs.Common.{◌≡◌, ℕ, ◌+◌, ◌-◌, ◌≤◌, length, drop}
use Rattle.fwd_outside.specs.Log.{Leads}
use Rattle.fwd_secure.specs.Outputs.{pushes, sends}
use Rattle.fwd_secure.proofs.outputs.send.Given as goal

-- what is left to push, and the calls so far
abbrev pub invariant-pushing : goal.invariant-pushing
invariant-pushing g l = record {
  led : (left : ℕ) × (length l.bytes ≤ l.taken + left)
      × Leads (g.L.Loop.call_log l.fn.inner) (g.L.Loop.call_log l.inner) (sends l.link.0 l.bytes) (pushes left l.link.0 (drop l.taken l.bytes));
  within : l.taken ≤ length l.bytes;
  later : g.L.Loop.faults l.fn.inner ≤ g.L.Loop.faults l.inner;
  same : g.L.Loop.counts l.inner ≡ g.L.Loop.counts l.fn.inner;
}

abbrev pub decreases-pushing : goal.decreases-pushing
decreases-pushing g l = length l.bytes - l.taken
