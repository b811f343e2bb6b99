use Rattle.fwd_model.specs.Fact.{Delivered}
use Rattle.fwd_model.specs.Trace.{loop_part}
use Rattle.fwd_theorem_delivery.proofs.RunEnd.{kept_at_end, hands_whole}
use Rattle.fwd_theorem_delivery.proofs.flush_outcomes.delivered_routes_sent_all.Goals as goal

pub returns : goal.returns
returns c s ends ticks turns trace lived r way are noted =
    let kept = kept_at_end s ends ticks turns trace lived way are in
    hands_whole s kept.0 (loop_part trace) lived.history kept.1 r (kept.1.came r Delivered noted)
