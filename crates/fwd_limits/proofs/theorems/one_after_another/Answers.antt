use Rattle.fwd_limits.proofs.Evictions.{asked_is}
use Rattle.fwd_limits.proofs.theorems.one_after_another.Goals as goal

pub returns : goal.returns
returns c = asked_is
