use Rattle.std.proofs.Common.{ℕ, Some, ◌∙◌, ap}
use Rattle.fwd_theorem_limits.proofs.Stops.{first_stop, stopped_since}
use Rattle.fwd_theorem_limits.proofs.run_end.first_stop_counts.Goals as goal

pub returns : goal.returns
returns c s h at = (λ is. first_stop s h at is, λ found. stopped_since s h found.0 ∙ ap (λ (n : ℕ). Some n) found.1)
