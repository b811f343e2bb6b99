use Rattle.fwd_limits.specs.Backpressure.{IsPaused}
use Rattle.fwd_limits.proofs.Masks.{MaskBelow}
use Rattle.fwd_limits.proofs.backpressure.paused.Given as goal

abbrev pub invariant-loop-i : goal.invariant-loop-i
invariant-loop-i l = MaskBelow l.i (IsPaused l.limit-items l.table.rows) l.mask
