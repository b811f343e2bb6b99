use Rattle.fwd_theorem_trace.proofs.RecordGrowth.{clock_rises}
use Rattle.fwd_theorem_trace.proofs.growth.clock_never_falls.Goals as goal

pub returns : goal.returns
returns c h entries = clock_rises h entries
