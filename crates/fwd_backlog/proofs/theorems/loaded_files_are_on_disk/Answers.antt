use Rattle.fwd_outside.specs.DiskStates.{initial_files}
use Rattle.fwd_outside.proofs.Invariant.{invariant_initial, invariant_reached}
use Rattle.fwd_backlog.proofs.LoadedFiles.{what_was_loaded}
use Rattle.fwd_backlog.proofs.theorems.loaded_files_are_on_disk.Goals as goal

pub returns : goal.returns
returns c root given before entries first last files found holds way ends are =
    what_was_loaded root entries first last files found (invariant_reached before (initial_files given) first holds (invariant_initial given)) way ends are
