use Rattle.fwd_backlog.proofs.FreeNumbers.{later_is_new}
use Rattle.fwd_backlog.proofs.theorems.later_names_are_new.Goals as goal

pub returns : goal.returns
returns c = later_is_new
