use Rattle.fwd_flush.proofs.Steps.{stayed}
use Rattle.fwd_flush.proofs.flush.Flush.end.Goals as goal

pub returns-in_err-close-clause-calls : goal.returns-in_err-close-clause-calls
returns-in_err-close-clause-calls g c = stayed _ _ _ _ c.from_residual.result c.from_residual.ensures.0 c.in_err-close.ensures.call_log
