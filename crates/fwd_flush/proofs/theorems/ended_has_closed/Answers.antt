use Rattle.fwd_flush.proofs.Links.{starts_has, goes_has}
use Rattle.fwd_flush.proofs.theorems.ended_has_closed.Goals as goal

pub returns-clause-starts : goal.returns-clause-starts
returns-clause-starts c = starts_has

pub returns-clause-goes : goal.returns-clause-goes
returns-clause-goes c = goes_has
