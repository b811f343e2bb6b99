use Rattle.fwd_backlog.proofs.PathParts.{same_file}
use Rattle.fwd_backlog.proofs.theorems.paths_determine_files.Goals as goal

pub returns : goal.returns
returns c = same_file
