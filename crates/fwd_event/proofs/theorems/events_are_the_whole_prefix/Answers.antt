use Rattle.fwd_event.proofs.EventPrefix.{whole_prefix_of}
use Rattle.fwd_event.proofs.theorems.events_are_the_whole_prefix.Goals as goal

pub returns : goal.returns
returns c = whole_prefix_of
