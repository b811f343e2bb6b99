use Rattle.fwd_event.proofs.EventPrefix.{all_events, events_all}
use Rattle.fwd_event.proofs.theorems.all_bytes_are_events.Goals as goal

pub returns : goal.returns
returns c = λ events b. (all_events events b, events_all events b)
