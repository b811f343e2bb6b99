use Rattle.fwd_theorem_delivery.proofs.ClosedChunks.{closed_in_time}
use Rattle.fwd_theorem_delivery.proofs.close_time.chunks_close_in_time.Goals as goal

pub returns : goal.returns
returns c s ends ticks turns lived entries one way over = closed_in_time s ends ticks turns entries lived one way over
