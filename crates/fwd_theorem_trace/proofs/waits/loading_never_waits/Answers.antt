use Rattle.fwd_theorem_trace.proofs.WaitCounts.{loading_waitless}
use Rattle.fwd_theorem_trace.proofs.waits.loading_never_waits.Goals as goal

pub returns : goal.returns
returns c s entries left way = loading_waitless s entries left way
