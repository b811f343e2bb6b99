use Rattle.fwd_theorem_steps.proofs.BrokenRuns.{come_by_turns}
use Rattle.fwd_theorem_steps.proofs.turns.runs_come_by_turns.Goals as goal

pub returns : goal.returns
returns c s ends ticks turns entries left way = come_by_turns s ends ticks turns entries left way
