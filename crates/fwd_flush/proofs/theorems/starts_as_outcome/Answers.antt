use Rattle.fwd_flush.proofs.Outcomes.{starts_law}
use Rattle.fwd_flush.proofs.theorems.starts_as_outcome.Goals as goal

pub returns : goal.returns
returns c = starts_law
