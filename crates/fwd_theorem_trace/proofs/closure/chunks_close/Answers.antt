use Rattle.fwd_theorem_trace.proofs.TurnEnd.{closed_at_end}
use Rattle.fwd_theorem_trace.proofs.closure.chunks_close.Goals as goal

pub returns : goal.returns
returns c s ends ticks turns lived entries way has = closed_at_end s ends ticks turns entries lived way has
