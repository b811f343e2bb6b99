use Rattle.fwd_limits.proofs.LowestChunks.{shortest}
use Rattle.fwd_limits.proofs.theorems.losses_are_the_lowest.Goals as goal

pub returns : goal.returns
returns c = shortest
