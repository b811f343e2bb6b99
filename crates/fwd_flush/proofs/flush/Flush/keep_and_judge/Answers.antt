use Rattle.fwd_outside.proofs.LogGrowth.{grew_none}
use Rattle.fwd_flush.proofs.Steps.{stayed}
use Rattle.fwd_flush.proofs.flush.Flush.keep_and_judge.Goals as goal

pub returns-in_err-hear-clause-calls : goal.returns-in_err-hear-clause-calls
returns-in_err-hear-clause-calls g c = rw c.in_err-hear.ensures.err (stayed _ _ _ _ c.from_residual.result c.from_residual.ensures.0 (grew_none _))
