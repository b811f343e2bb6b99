use Rattle.fwd_theorem_trace.proofs.EventFacts.{brought_of_life}
use Rattle.fwd_theorem_trace.proofs.events.logged_events_are_waited.Goals as goal

pub returns : goal.returns
returns c s ends ticks turns lived entries way = brought_of_life s ticks ends turns entries lived way
