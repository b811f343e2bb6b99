-- What the next event says about a list of events.
use Rattle.std.proofs.Common.{◌≡◌, ℕ, ◌+◌, ◌<◌, ◌≤◌, List, [], ◌∷◌, ◌++◌, length, take, drop, sym, ap, subst, ◌∙◌, arith}
use Rattle.std.proofs.lemmas.List.{take_all, flat_map_more}
use Rattle.fwd_json.specs.declared.floats.PayloadForm.{PayloadForm}
use Rattle.fwd_event.specs.declared.event.Event.{Event}
use Rattle.fwd_event.specs.Event.{AreEvents}
use Rattle.fwd_event.proofs.EventLists.{one_more, event_at}
use Rattle.fwd_out_text.specs.FirstEvent.{StartsWithEvent, StartsWithNoEvent}
use Rattle.fwd_out_text.specs.Payload.{record_of, payload_of}

-- bytes aren't a list of events if there is none after the first ones
pub none_are : (es fs : List Event) (p : ℕ) (b : List ℕ) → AreEvents es (take p b) → p < length b → StartsWithNoEvent (drop p b) → AreEvents fs b → ⊥
none_are es fs p b a lt none f =
    let h = event_at es fs p (length b) b a (subst (AreEvents fs) (sym (take_all (length b) b (omega arith))) f) lt (omega arith) in
    none h.1 h.2 (h.0, h.3, h.4)

-- one more event is decoded and written after the others
pub one_written : (form : PayloadForm) (tag old new out : List ℕ) (p n : ℕ) (b : List ℕ) → p ≤ length b
    → ((es : List Event) × AreEvents es (take p b) × (out ≡ old ++ payload_of form tag es)) → ((e : Event) × StartsWithEvent e n (drop p b) × (new ≡ out ++ record_of form tag e))
    → (es : List Event) × AreEvents es (take (p + n) b) × (new ≡ old ++ payload_of form tag es)
one_written form tag old new out p n b le a e =
    let written = record_of form tag in
    (a.0 ++ e.0 ∷ [], one_more a.0 e.0 e.1.0 p n b le a.1 e.1.1 e.1.2, e.2 ∙ ap (λ (o : List ℕ). o ++ written e.0) a.2 ∙ flat_map_more written old a.0 e.0)
