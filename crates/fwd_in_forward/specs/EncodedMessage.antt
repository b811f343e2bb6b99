-- Messages whose events are encoded.
use Rattle.std.specs.Prelude.{◌≡◌, ℕ, List, length, All, option_map}
use Rattle.fwd_value.specs.View.{val_of}
use Rattle.fwd_event.specs.declared.event.Event.{Event}
use Rattle.fwd_event.specs.EventPrefix.{events_in, encodings, IsWritable}
use Rattle.fwd_wire.specs.Message.{MessageContent, batch}
use Rattle.fwd_in_forward.specs.declared.encoded_message.EncodedMessage.{EncodedMessage}

-- what the message says: its events are those that its bytes encode
abbrev pub encoded_content : EncodedMessage → MessageContent
encoded_content m = batch m.tag (events_in m.events).0 (option_map val_of m.chunk)

-- the bytes are the stored encodings of n events that can be written
pub record AreStored (n : ℕ) (bytes : List ℕ) : Type 0 where
  pub events : List Event
  pub writable : All IsWritable events
  pub encoded : bytes ≡ encodings events
  pub count : n ≡ length events

-- the events of the message are stored encodings
abbrev pub HoldsEncodings : EncodedMessage → Type 0
HoldsEncodings m = AreStored m.count m.events
