use Rattle.fwd_model.specs.Trace.{loop_part}
use Rattle.fwd_theorem_delivery.proofs.RunEnd.{whole_at_end, hands_beginning}
use Rattle.fwd_theorem_delivery.proofs.flush_outcomes.links_send_prefixes.Goals as goal

pub returns : goal.returns
returns c s ends ticks turns trace lived to link way are given =
    let end = whole_at_end s ends ticks turns trace lived way are in
    hands_beginning s end.0 (loop_part trace) lived.history end.1.kept end.1.closed to link given
