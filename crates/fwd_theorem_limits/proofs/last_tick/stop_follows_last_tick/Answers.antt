use Rattle.std.proofs.Common.{◌∙◌, [], None}
use Rattle.fwd_theorem_trace.specs.Past.{past_after}
use Rattle.fwd_theorem_trace.specs.Events.{waited_events}
use Rattle.fwd_theorem_trace.proofs.EventFacts.{brought_of_life}
use Rattle.fwd_theorem_limits.proofs.LastTick.{stops_after_ticks, no_stop_without_ticks}
use Rattle.fwd_theorem_limits.proofs.last_tick.stop_follows_last_tick.Goals as goal

pub returns-clause-given : goal.returns-clause-given
returns-clause-given c s ends ticks turns lived entries small way = stops_after_ticks s ticks small ends turns entries lived way

pub returns-clause-without : goal.returns-clause-without
returns-clause-without c s ends turns lived entries way = brought_of_life s None ends turns entries lived way ∙ no_stop_without_ticks s (waited_events (past_after [] entries))
