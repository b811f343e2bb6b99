use Rattle.std.proofs.Common.{◌≡◌, ℕ, ◌≤◌, List, length, drop}
use Rattle.fwd_config.specs.Variables.{environment}
use Rattle.fwd_config.specs.Representation.{value_of}
use Rattle.fwd_config.proofs.variables.Variables.new.Given as goal

abbrev pub invariant-loop-left : goal.invariant-loop-left
invariant-loop-left l = (l.left ≤ length l.env) × ((name : List ℕ) → value_of l.variables name ≡ environment (drop l.left l.env) name)

abbrev pub decreases-loop-left : goal.decreases-loop-left
decreases-loop-left l = l.left
