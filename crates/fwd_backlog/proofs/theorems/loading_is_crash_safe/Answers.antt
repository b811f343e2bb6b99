use Rattle.fwd_outside.specs.DiskStates.{initial_files}
use Rattle.fwd_outside.proofs.Invariant.{invariant_initial, invariant_reached}
use Rattle.fwd_backlog.proofs.LoadedFiles.{moments_no_more}
use Rattle.fwd_backlog.proofs.theorems.loading_is_crash_safe.Goals as goal

pub returns : goal.returns
returns c root given before entries files left holds way =
    moments_no_more root files entries left (invariant_reached before (initial_files given) files holds (invariant_initial given)) way
