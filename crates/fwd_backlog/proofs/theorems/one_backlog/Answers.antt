use Rattle.fwd_backlog.proofs.OneBacklog.{one_backlog}
use Rattle.fwd_backlog.proofs.theorems.one_backlog.Goals as goal

pub returns : goal.returns
returns c = one_backlog
