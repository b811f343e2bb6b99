use Rattle.fwd_theorem_runs.proofs.TickedRun.{same_or_stopped}
use Rattle.fwd_theorem_runs.proofs.stop.ticks_end_with_a_stop.Goals as goal

pub returns : goal.returns
returns c s ends ticks turns trace result untracked way = same_or_stopped s ticks untracked result ends turns trace way
