use Rattle.std.proofs.Common.{◌≡◌, map, take}
use Rattle.fwd_engine_recovery.specs.FollowedPaths.{followed_paths_of}
use Rattle.fwd_engine_recovery.proofs.followed_inputs.copy_followed_inputs.Given as goal

abbrev pub invariant-loop-number : goal.invariant-loop-number
invariant-loop-number l = map followed_paths_of l.sets.items ≡ map followed_paths_of (take l.number l.run.inputs)
