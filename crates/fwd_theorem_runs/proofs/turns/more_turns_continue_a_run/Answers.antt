use Rattle.fwd_theorem_runs.proofs.MoreTurns.{spent_goes_on, ended_is_same}
use Rattle.fwd_theorem_runs.proofs.turns.more_turns_continue_a_run.Goals as goal

pub returns-clause-goes_on : goal.returns-clause-goes_on
returns-clause-goes_on c s ends ticks turns more trace h way = spent_goes_on s ticks more ends turns trace h way

pub returns-clause-ended : goal.returns-clause-ended
returns-clause-ended c s ends ticks turns more trace result way left = ended_is_same s ticks more ends turns trace result left way
