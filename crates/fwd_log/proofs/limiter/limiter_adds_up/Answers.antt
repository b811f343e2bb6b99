use Rattle.fwd_log.proofs.Limits.{adds_up}
use Rattle.fwd_log.proofs.limiter.limiter_adds_up.Goals as goal

pub returns : goal.returns
returns c = λ state times less. adds_up state times less
