-- The names are those of the outputs of the mask so far.
use Rattle.std.proofs.Common.{◌≡◌}
use Rattle.fwd_model.specs.Settings.{output_name}
use Rattle.fwd_engine_settings.proofs.OutputNames.{names_below}
use Rattle.fwd_engine_settings.proofs.run_settings.RunSettings.names_of.Given as goal

abbrev pub invariant-loop-output : goal.invariant-loop-output
invariant-loop-output l = l.names ≡ names_below (output_name l.self) l.routes l.output
