use Rattle.fwd_theorem_runs.proofs.MoreTurns.{ends_at_end}
use Rattle.fwd_theorem_runs.proofs.turns.an_end_ends_a_run.Goals as goal

pub returns : goal.returns
returns c s ticks turns h none = ends_at_end s ticks turns h none
