-- The events of a message that came encoded.
use Rattle.std.proofs.Common.{◌≡◌, ◌↔◌, ◌∙◌, ℕ, List, [], ◌∷◌, length, sym, ap, subst}
use Rattle.std.specs.Prelude.{All}
use Rattle.fwd_event.specs.declared.event.Event.{Event}
use Rattle.fwd_event.specs.Event.{AreEvents, EventFits}
use Rattle.fwd_event.specs.EventPrefix.{events_in, encodings, IsWritable}
use Rattle.fwd_in_forward.specs.EncodedMessage.{AreStored}

writable_fit : (es : List Event) → All IsWritable es → All EventFits es
writable_fit es are = λ k d within. (are k d within).fits

-- what the bytes of such events say
pub record ReadBack (n : ℕ) (bytes : List ℕ) (events : List Event) : Type 0 where
  pub count : length events ≡ n
  pub encoded : bytes ≡ encodings events
  pub are : AreEvents events bytes
  pub fit : All EventFits events

pub read_back : (n : ℕ) (bytes : List ℕ)
    → ((events : List Event) → All IsWritable events → events_in (encodings events) ≡ (events, length (encodings events)))
    → ((events : List Event) (b : List ℕ) → AreEvents events b ↔ (events_in b ≡ (events, length b)))
    → AreStored n bytes → ReadBack n bytes (events_in bytes).0
read_back n bytes decoded all stored =
    let es = stored.events in
    let is : events_in bytes ≡ (es, length bytes) = ap events_in stored.encoded ∙ decoded es stored.writable ∙ ap (λ (b : List ℕ). (es, length b)) (sym stored.encoded) in
    let same : (events_in bytes).0 ≡ es = ap (λ (x : List Event × ℕ). x.0) is in
    record {
      count = ap length same ∙ sym stored.count;
      encoded = stored.encoded ∙ ap encodings (sym same);
      are = subst (λ (l : List Event). AreEvents l bytes) (sym same) ((all es bytes).1 is);
      fit = subst (All EventFits) (sym same) (writable_fit es stored.writable);
    }
