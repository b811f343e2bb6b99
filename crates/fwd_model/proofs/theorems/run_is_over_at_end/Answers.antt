use Rattle.fwd_model.proofs.RunOver.{over_at_end}
use Rattle.fwd_model.proofs.theorems.run_is_over_at_end.Goals as goal

pub returns : goal.returns
returns c s h = over_at_end s h
