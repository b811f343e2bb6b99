use Rattle.std.proofs.Common.{◌≡◌, ℕ, ◌+◌, ◌-◌, ◌≤◌, length}
use Rattle.fwd_flush.specs.FlushProgram.{Progress, Delivery, pushes, writes}
use Rattle.fwd_flush.specs.Calls.{Advances}
use Rattle.fwd_flush.proofs.rest.push_rest.Given as goal

-- what is left to push, and the calls so far
abbrev pub invariant-pushing : goal.invariant-pushing
invariant-pushing g l = record {
  led : (d : Delivery) (p : Progress) → d.payload ≡ l.payload → p.taken ≡ l.fn.taken
      → (left : ℕ) × (length l.payload ≤ l.taken + left)
      × Advances (g.L.Loop.call_log l.fn.outside) (g.L.Loop.call_log l.outside) (writes d l.link p) (pushes left d l.link (record p { taken = l.taken })) p (record p { taken = l.taken });
  later : g.L.Loop.faults l.fn.outside ≤ g.L.Loop.faults l.outside;
  same : g.L.Loop.counts l.outside ≡ g.L.Loop.counts l.fn.outside;
}

abbrev pub decreases-pushing : goal.decreases-pushing
decreases-pushing g l = length l.payload - l.taken
