use Rattle.fwd_model.specs.Trace.{loop_part}
use Rattle.fwd_theorem_delivery.proofs.RunEnd.{kept_at_end, is_under_way}
use Rattle.fwd_theorem_delivery.proofs.flush_outcomes.flushes_in_progress_are_open.Goals as goal

pub returns : goal.returns
returns c s ends ticks turns trace lived r p way are flies =
    let kept = kept_at_end s ends ticks turns trace lived way are in
    is_under_way s kept.0 (loop_part trace) lived.history kept.1 r p flies
