use Rattle.fwd_theorem_delivery.proofs.RunEnd.{whole_at_end}
use Rattle.fwd_theorem_delivery.proofs.flush_outcomes.calls_are_on_open_links.Goals as goal

pub returns : goal.returns
returns c s ends ticks turns trace lived way are = (whole_at_end s ends ticks turns trace lived way are).1.opened
