use Rattle.fwd_theorem_trace.proofs.RecordGrowth.{records_grow}
use Rattle.fwd_theorem_trace.proofs.growth.records_never_shrink.Goals as goal

pub returns : goal.returns
returns c s ends ticks turns before entries left chunk way = records_grow s ends ticks turns before entries left chunk way
