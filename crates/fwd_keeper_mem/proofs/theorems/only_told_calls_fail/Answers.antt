use Rattle.fwd_keeper_mem.proofs.Unfailing.{unfailing}
use Rattle.fwd_keeper_mem.proofs.theorems.only_told_calls_fail.Goals as goal

pub returns : goal.returns
returns c = unfailing
