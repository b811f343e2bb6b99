use Rattle.std.proofs.Common.{◌≡◌, ◌++◌, length}
use Rattle.fwd_config.specs.Variables.{replace_variables, has_open_brace}
use Rattle.fwd_config.specs.Representation.{value_of}
use Rattle.fwd_config.proofs.variables.Variables.replace_variables.Given as goal

abbrev pub invariant-loop-rest : goal.invariant-loop-rest
invariant-loop-rest l =
    (l.text ++ replace_variables (value_of l.self) l.rest ≡ replace_variables (value_of l.self) l.value) × (has_open_brace l.rest ≡ has_open_brace l.value)

abbrev pub decreases-loop-rest : goal.decreases-loop-rest
decreases-loop-rest l = length l.rest
