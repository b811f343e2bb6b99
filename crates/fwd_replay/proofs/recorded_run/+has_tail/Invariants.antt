use Rattle.std.proofs.Common.{length}
use Rattle.fwd_replay.proofs.recorded_run.+has_tail.Given as goal

abbrev pub decreases-has_tail : goal.decreases-has_tail
decreases-has_tail l = length l.inputs.now
