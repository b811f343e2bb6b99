use Rattle.fwd_theorem_trace.proofs.Run.{due_since}
use Rattle.fwd_theorem_trace.proofs.entries.entries_are_allowed.Goals as goal

pub returns : goal.returns
returns c s ends ticks turns entries left way = due_since s ends ticks turns entries left way
