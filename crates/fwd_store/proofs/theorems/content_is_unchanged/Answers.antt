use Rattle.fwd_store.proofs.UntouchedFile.{settled_stays, either_stays, settled_leaves}
use Rattle.fwd_store.proofs.theorems.content_is_unchanged.Goals as goal

pub returns-clause-settled : goal.returns-clause-settled
returns-clause-settled c = settled_stays

pub returns-clause-either : goal.returns-clause-either
returns-clause-either c = either_stays

pub returns-clause-images : goal.returns-clause-images
returns-clause-images c = settled_leaves
