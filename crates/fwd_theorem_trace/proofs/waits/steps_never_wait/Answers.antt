use Rattle.fwd_theorem_trace.proofs.WaitCounts.{step_waitless}
use Rattle.fwd_theorem_trace.proofs.waits.steps_never_wait.Goals as goal

pub returns : goal.returns
returns c s happens h entries left way = step_waitless s happens h entries left way
