-- The events of a message, as they were read.
use Rattle.std.specs.Prelude.{◌≡◌, true, List}
use Rattle.fwd_event.specs.declared.event.Event.{Event}
use Rattle.fwd_event.specs.EventPrefix.{events_in}
use Rattle.fwd_in_forward.specs.EncodedMessage.{AreStored}
use Rattle.fwd_theorem_depth.specs.Shallow.{are_shallow}
use Rattle.fwd_engine_ingest.specs.declared.message_events.MessageEvents.{MessageEvents}
use Rattle.fwd_engine_ingest.specs.declared.message_events.MessageEvents.TheVariants.{Values, Encoded}

abbrev pub message_events : MessageEvents → List Event
message_events (Values events) = events
message_events (Encoded count bytes) = (events_in bytes).0

-- values are nested no deeper than an event may be, and encodings are those of so many events
abbrev pub AreReadBack : MessageEvents → Type 0
AreReadBack (Values events) = are_shallow events ≡ true
AreReadBack (Encoded count bytes) = AreStored count bytes
