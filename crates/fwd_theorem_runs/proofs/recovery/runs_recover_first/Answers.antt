use Rattle.fwd_theorem_runs.proofs.EmptyRecovery.{split}
use Rattle.fwd_theorem_runs.proofs.recovery.runs_recover_first.Goals as goal

pub returns : goal.returns
returns c s ends ticks turns trace result way = split s ends ticks turns trace result way
