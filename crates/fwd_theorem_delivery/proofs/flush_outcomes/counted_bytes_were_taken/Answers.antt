use Rattle.fwd_theorem_delivery.proofs.RunEnd.{taken_at_end}
use Rattle.fwd_theorem_delivery.proofs.flush_outcomes.counted_bytes_were_taken.Goals as goal

pub returns : goal.returns
returns c s ends ticks turns trace lived output way are = taken_at_end s ends ticks turns trace lived output way are
