use Rattle.fwd_flush.proofs.Turns.{flown}
use Rattle.fwd_flush.proofs.theorems.outcome_of_flush.Goals as goal

pub returns : goal.returns
returns c = flown
