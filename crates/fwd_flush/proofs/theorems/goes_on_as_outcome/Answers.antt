use Rattle.fwd_flush.proofs.Outcomes.{goes_law}
use Rattle.fwd_flush.proofs.theorems.goes_on_as_outcome.Goals as goal

pub returns : goal.returns
returns c = goes_law
