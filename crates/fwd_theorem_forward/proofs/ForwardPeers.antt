-- What is sent to forward peers, and what they send.
use Rattle.std.proofs.Common.{◌≡◌, ℕ, Bool, true, false, List, ◌++◌, Option, Some, None, refl, sym, ◌∙◌, ap, subst}
use Rattle.std.specs.Prelude.{◌↔◌}
use Rattle.fwd_value.specs.Val.{Val, text}
use Rattle.fwd_msgpack.specs.Canonical.{canonical}
use Rattle.fwd_msgpack.specs.DecodeAnswers.{EncodesPrefix}
use Rattle.fwd_event.specs.declared.event.Event.{Event}
use Rattle.fwd_flush.specs.declared.judgement.Judged.TheVariants.{Right, Fatal}
use Rattle.fwd_settings.specs.declared.settings_types.AllSettings.{AllSettings}
use Rattle.fwd_settings.specs.declared.settings_types.OutputSet.{OutputSet}
use Rattle.fwd_settings.specs.declared.settings_types.OutputKind.{OutputKind}
use Rattle.fwd_settings.specs.declared.settings_types.OutputKind.TheVariants as output_kind
use Rattle.fwd_out_net.specs.Id.{chunk_id}
use Rattle.fwd_out_net.specs.Judgement.{ack_judgement}
use Rattle.fwd_wire.specs.Encode.{ack_val}
use Rattle.fwd_wire.specs.Message.{MessageContent, nothing, batch}
use Rattle.fwd_wire.specs.Stream.{Ending, waiting, broken, Streams}
use Rattle.fwd_wire.specs.Decode.{Stream, messages_in}
use Rattle.fwd_model.specs.Fact.{History, Route}
use Rattle.fwd_model.specs.Settings.{output_at}
use Rattle.fwd_model.specs.Routes.{begun}
use Rattle.fwd_model.specs.Messages.{reply_of, is_malformed, becomes_malformed}
use Rattle.fwd_model.specs.Payloads.{tag_of_chunk, message_to, delivery_to, delivery_at, delivery}
use Rattle.fwd_theorem_forward.specs.Forward.{SendsMessage, AsksFor, IsBroken}

-- ---- what is sent

module _ (right : (id reply : List ℕ) → (ack_judgement id reply ≡ Right) ↔ ((n : ℕ) × EncodesPrefix (ack_val (text id)) n reply)) (unfatal : (id reply : List ℕ) → ack_judgement id reply ≡ Fatal → ⊥) where
  by_ack : (ack whole_time : Bool) (tag : List ℕ) (r : Route) (events : List Event) → SendsMessage ack whole_time tag events (chunk_id r.chunk r.output) (message_to ack whole_time tag r events)
  by_ack true whole_time tag r events = record { payload = refl; wanted = refl; right = λ on reply. right (chunk_id r.chunk r.output) reply; final = λ on reply. unfatal (chunk_id r.chunk r.output) reply }
  by_ack false whole_time tag r events = record { payload = refl; wanted = refl; right = λ on. absurd (cc on); final = λ on. absurd (cc on) }

  pub sends_message : (s : AllSettings) (h : History) (r : Route) (output : OutputSet) (host : List ℕ) (port : ℕ) (ack whole_time : Bool)
      → output_at s r.output ≡ Some output → output.kind ≡ output_kind.Forward host port ack whole_time
      → SendsMessage ack whole_time (tag_of_chunk h r.chunk) (begun h r) (chunk_id r.chunk r.output) (delivery s h r)
  sends_message s h r output host port ack whole_time at is =
      let whole : delivery s h r ≡ message_to ack whole_time (tag_of_chunk h r.chunk) r (begun h r)
      = ap (λ (o : Option OutputSet). delivery_at o (tag_of_chunk h r.chunk) r (begun h r)) at ∙ ap (λ (kind : OutputKind). delivery_to kind (tag_of_chunk h r.chunk) r (begun h r)) is in
      subst (SendsMessage ack whole_time (tag_of_chunk h r.chunk) (begun h r) (chunk_id r.chunk r.output)) (sym whole) (by_ack ack whole_time (tag_of_chunk h r.chunk) r (begun h r))

-- ---- what is answered

same_chunk : (tag other : List ℕ) (events more : List Event) (chunk own : Val) → batch tag events (Some chunk) ≡ batch other more (Some own) → chunk ≡ own
same_chunk tag other events more chunk own is = cc is

pub asks_for : (m : MessageContent) (reply : List ℕ) → (reply_of m ≡ Some reply) ↔ AsksFor m reply
asks_for nothing reply = (λ is. absurd (cc is), λ asks. let is : nothing ≡ batch asks.tag asks.events (Some asks.chunk) = asks.is in absurd (cc is))
asks_for (batch tag events None) reply = (λ is. absurd (cc is), λ asks. let is : batch tag events None ≡ batch asks.tag asks.events (Some asks.chunk) = asks.is in absurd (cc is))
asks_for (batch tag events (Some chunk)) reply = (
  λ is. record { tag = tag; events = events; chunk = chunk; is = refl; bytes = cc is },
  λ asks. ap (λ (v : Val). Some (canonical (ack_val v))) (same_chunk tag asks.tag events asks.events chunk asks.chunk asks.is) ∙ ap Some (sym asks.bytes),
)

-- ---- bytes that are no message

pub malformed : ((ms : List MessageContent) (e : Ending) (b : List ℕ) → Streams ms e b ↔ (messages_in b ≡ record { messages = ms; ending = e }))
    → (before piece : List ℕ) → (becomes_malformed before piece ≡ true) ↔ IsBroken (before ++ piece)
malformed read before piece = (breaks (messages_in (before ++ piece)).ending refl, λ broken_off. ap (λ (stream : Stream). is_malformed stream.ending) ((read broken_off.messages (broken broken_off.fault) (before ++ piece)).0 broken_off.are))
  where
    breaks : (e : Ending) → (messages_in (before ++ piece)).ending ≡ e → is_malformed e ≡ true → IsBroken (before ++ piece)
    breaks (waiting rest) is never = absurd (cc never)
    breaks (broken fault) is broke = record {
      messages = (messages_in (before ++ piece)).messages;
      fault = fault;
      are = (read (messages_in (before ++ piece)).messages (broken fault) (before ++ piece)).1 (λ i. record { messages = (messages_in (before ++ piece)).messages; ending = is i });
    }
