use Rattle.fwd_backlog.proofs.Names.{sorted, same_files}
use Rattle.fwd_backlog.proofs.theorems.files_are_in_order.Goals as goal

pub returns : goal.returns
returns c = record { sorted = sorted; same = same_files }
