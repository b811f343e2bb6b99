use Rattle.std.proofs.Common.{not}
use Rattle.std.specs.List.{list_any}
use Rattle.std.specs.Str.{bytes_eq}
use Rattle.fwd_model.specs.Settings.{output_name}
use Rattle.fwd_engine_recovery.proofs.OutputMask.{Left}
use Rattle.fwd_engine_recovery.proofs.pending_outputs.remaining_outputs.Given as goal

abbrev pub invariant-loop-output : goal.invariant-loop-output
invariant-loop-output l = Left (λ output. not (list_any (λ other. bytes_eq other (output_name l.run output)) l.done)) l.routes l.output l.left
