use Rattle.fwd_limits.proofs.Masks.{MaskBelow}
use Rattle.fwd_engine_state.proofs.input_mask.first_inputs.Given as goal

abbrev pub invariant-loop-i : goal.invariant-loop-i
invariant-loop-i l = MaskBelow l.i (λ i. Unit {0}) l.mask
