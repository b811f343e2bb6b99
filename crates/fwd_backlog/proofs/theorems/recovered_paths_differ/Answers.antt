use Rattle.fwd_backlog.proofs.OneBacklog.{sorted_differ}
use Rattle.fwd_backlog.proofs.theorems.recovered_paths_differ.Goals as goal

pub returns : goal.returns
returns c = λ root found are. sorted_differ root found (λ k d lt. (are.each k d lt).stream) are.sorted
