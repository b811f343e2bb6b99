use Rattle.fwd_theorem_runs.proofs.EmptyRecovery.{on_empty}
use Rattle.fwd_theorem_runs.proofs.recovery.empty_recoveries_are_alike.Goals as goal

pub returns : goal.returns
returns c s ends ticks turns trace result split is = on_empty s ends ticks turns split.rest split.found result is split.followed
