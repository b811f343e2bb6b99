use Rattle.std.proofs.Common.{◌≡◌, take}
use Rattle.fwd_replay.specs.Text.{output_names}
use Rattle.fwd_replay.proofs.names.output_names.Given as goal

abbrev pub invariant-loop-set : goal.invariant-loop-set
invariant-loop-set l = l.names ≡ output_names (take l.set-index l.outputs)
