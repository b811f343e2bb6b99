-- What received messages say.
use Rattle.std.specs.Prelude.{List, map}
use Rattle.fwd_wire.specs.Message.{MessageContent}
use Rattle.fwd_wire.specs.Representation.{content_of}
use Rattle.fwd_in_forward.specs.declared.received.Received.{Received}
use Rattle.fwd_in_forward.specs.declared.received.Received.TheVariants.{Encoded, Decoded}
use Rattle.fwd_in_forward.specs.EncodedMessage.{encoded_content, HoldsEncodings}

abbrev pub received_content : Received → MessageContent
received_content (Encoded m) = encoded_content m
received_content (Decoded m) = content_of m

-- encoded events are those of the message
abbrev pub KeepsEncodings : Received → Type 0
KeepsEncodings (Encoded m) = HoldsEncodings m
KeepsEncodings (Decoded m) = Unit {0}

-- what messages say
abbrev pub all_received : List Received → List MessageContent
all_received ms = map received_content ms
