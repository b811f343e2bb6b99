use Rattle.fwd_outside.specs.DiskStates.{initial_files}
use Rattle.fwd_outside.proofs.Invariant.{invariant_initial, invariant_reached, read_is_post_crash_state}
use Rattle.fwd_outside.proofs.theorems.read_is_post_crash.Goals as goal

pub returns : goal.returns
returns c given entries files name ends = read_is_post_crash_state (files name) (invariant_reached entries (initial_files given) files ends (invariant_initial given) name)
