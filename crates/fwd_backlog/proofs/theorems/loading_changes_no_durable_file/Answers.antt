use Rattle.fwd_backlog.proofs.DurableFiles.{nothing_changes}
use Rattle.fwd_backlog.proofs.theorems.loading_changes_no_durable_file.Goals as goal

pub returns : goal.returns
returns c = nothing_changes
