use Rattle.fwd_log.proofs.Limits.{each_minute}
use Rattle.fwd_log.proofs.limiter.limiter_writes_each_minute.Goals as goal

pub returns : goal.returns
returns c = λ state first now times none written late. each_minute state first now times none written late
