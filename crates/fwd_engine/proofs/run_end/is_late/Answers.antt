use Rattle.std.proofs.Common.{◌+◌, ◌-◌, ◌^◌, ℕ, ◌∙◌, ap}
use Rattle.std.specs.Prelude.{nat_le, min}
use Rattle.fwd_model.specs.Clock.{clock}
use Rattle.fwd_model.proofs.ClockBound.{clock_within}
use Rattle.fwd_engine.proofs.GracePeriod.{late_is}
use Rattle.fwd_engine.proofs.run_end.is_late.Goals as goal

pub returns : goal.returns
returns c s h out shows =
    let end = c.saturating_add-end.ensures ∙ ap (λ (n : ℕ). min (n + c.args.at) (2 ^ 64 - 1)) c.saturating_mul.ensures in
    (λ i. nat_le (end i) (c.clock.ensures s h out shows i)) ∙ late_is c.args.at c.args.grace_s (clock h) (clock_within h)
