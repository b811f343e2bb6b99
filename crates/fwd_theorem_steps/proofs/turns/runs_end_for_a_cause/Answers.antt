use Rattle.fwd_theorem_steps.proofs.RunEnds.{ends_for_cause}
use Rattle.fwd_theorem_steps.proofs.turns.runs_end_for_a_cause.Goals as goal

pub returns : goal.returns
returns c s ends ticks turns lived entries way = ends_for_cause s ends ticks turns entries lived way
