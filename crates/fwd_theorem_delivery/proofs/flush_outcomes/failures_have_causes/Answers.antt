use Rattle.fwd_model.specs.Fact.{Retries, Failed, Exhausted}
use Rattle.fwd_model.specs.Trace.{loop_part}
use Rattle.fwd_theorem_delivery.proofs.RunEnd.{kept_at_end, has_failed, is_rejected}
use Rattle.fwd_theorem_delivery.proofs.flush_outcomes.failures_have_causes.Goals as goal

pub returns-clause-retried : goal.returns-clause-retried
returns-clause-retried c s ends ticks turns trace lived r word way are noted =
    let kept = kept_at_end s ends ticks turns trace lived way are in
    has_failed s kept.0 (loop_part trace) lived.history kept.1 r (kept.1.came r (Retries word) noted)

pub returns-clause-spent : goal.returns-clause-spent
returns-clause-spent c s ends ticks turns trace lived r way are noted =
    let kept = kept_at_end s ends ticks turns trace lived way are in
    has_failed s kept.0 (loop_part trace) lived.history kept.1 r (kept.1.came r Exhausted noted)

pub returns-clause-failed : goal.returns-clause-failed
returns-clause-failed c s ends ticks turns trace lived r way are noted =
    let kept = kept_at_end s ends ticks turns trace lived way are in
    is_rejected s kept.0 (loop_part trace) lived.history kept.1 r (kept.1.came r Failed noted)
