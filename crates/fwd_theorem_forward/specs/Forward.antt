-- What is sent to forward peers, and what they send.
use Rattle.std.specs.Prelude.{◌≡◌, ◌↔◌, ℕ, Bool, true, if◌then◌else◌, List, Some, None}
use Rattle.fwd_value.specs.Val.{Val, text}
use Rattle.fwd_msgpack.specs.Canonical.{canonical}
use Rattle.fwd_msgpack.specs.DecodeAnswers.{EncodesPrefix}
use Rattle.fwd_event.specs.declared.event.Event.{Event}
use Rattle.fwd_flush.specs.FlushProgram.{Delivery}
use Rattle.fwd_flush.specs.declared.judgement.Judged.TheVariants.{Right, Fatal}
use Rattle.fwd_wire.specs.Encode.{ack_val, forward_payload}
use Rattle.fwd_wire.specs.Message.{MessageContent, batch}
use Rattle.fwd_wire.specs.Stream.{Streams, broken}
use Rattle.fwd_wire.specs.declared.fault.ConnFault.{ConnFault}

-- One message with these events is sent. If an acknowledgement is wanted, it has this id, and a reply is right if it
-- begins with the acknowledgement of the id. No reply rejects it for good.
pub record SendsMessage (ack whole_time : Bool) (tag : List ℕ) (events : List Event) (id : List ℕ)
    (d : Delivery) : Type 0 where
  pub payload : d.payload ≡ forward_payload tag events (if ack then Some id else None) whole_time
  pub wanted : d.wanted ≡ ack
  pub right : ack ≡ true → (reply : List ℕ)
      → (d.judged reply ≡ Right) ↔ ((n : ℕ) × EncodesPrefix (ack_val (text id)) n reply)
  pub final : ack ≡ true → (reply : List ℕ) → d.judged reply ≡ Fatal → ⊥

-- the message has a chunk, and this is the acknowledgement of it
pub record AsksFor (m : MessageContent) (reply : List ℕ) : Type 0 where
  pub tag : List ℕ
  pub events : List Event
  pub chunk : Val
  pub is : m ≡ batch tag events (Some chunk)
  pub bytes : reply ≡ canonical (ack_val chunk)

-- the bytes are messages, and then bytes that begin none
pub record IsBroken (bytes : List ℕ) : Type 0 where
  pub messages : List MessageContent
  pub fault : ConnFault
  pub are : Streams messages (broken fault) bytes
