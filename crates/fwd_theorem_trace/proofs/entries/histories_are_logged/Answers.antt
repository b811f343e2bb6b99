use Rattle.fwd_theorem_trace.proofs.Run.{noted_of_life}
use Rattle.fwd_theorem_trace.proofs.entries.histories_are_logged.Goals as goal

pub returns : goal.returns
returns c s ends ticks turns lived entries way = noted_of_life s ends ticks turns entries lived way
