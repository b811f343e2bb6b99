use Rattle.fwd_backlog.proofs.FreeNumbers.{number_is_free}
use Rattle.fwd_backlog.proofs.theorems.later_numbers_are_free.Goals as goal

pub returns : goal.returns
returns c = number_is_free
