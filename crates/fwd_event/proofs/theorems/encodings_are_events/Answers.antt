use Rattle.fwd_event.proofs.EventPrefix.{encodings_back}
use Rattle.fwd_event.proofs.theorems.encodings_are_events.Goals as goal

pub returns : goal.returns
returns c = encodings_back
