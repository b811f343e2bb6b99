use Rattle.std.proofs.Common.{◌≡◌, take}
use Rattle.fwd_replay.specs.Text.{input_names}
use Rattle.fwd_replay.proofs.names.input_names.Given as goal

abbrev pub invariant-loop-set : goal.invariant-loop-set
invariant-loop-set l = l.names ≡ input_names (take l.set-index l.inputs)
