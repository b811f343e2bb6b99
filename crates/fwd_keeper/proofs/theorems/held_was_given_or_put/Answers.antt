use Rattle.fwd_keeper.proofs.HeldOffsets.{held_from_first}
use Rattle.fwd_keeper.proofs.theorems.held_was_given_or_put.Goals as goal

pub returns : goal.returns
returns c = held_from_first
