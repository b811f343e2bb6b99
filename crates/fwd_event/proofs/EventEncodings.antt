-- The encoding of an event decodes to the event.
use Rattle.std.proofs.Common.{◌≡◌, ◌<◌, ◌^◌, [], ◌∷◌, ◌++◌, Some, refl, sym, append_assoc, arith}
use Rattle.std.specs.Int.{w32, to_be_bytes, from_be_bytes}
use Rattle.std.proofs.lemmas.List.{append-nil}
use Rattle.std.proofs.lemmas.Nat.{from_be_bytes-to_be_bytes_4}
use Rattle.fwd_value.specs.Val.{mapping, entries_of}
use Rattle.fwd_value.specs.Limits.{IsInRange}
use Rattle.fwd_msgpack.specs.Canonical.{canonical, list_head, ext_head}
use Rattle.fwd_msgpack.proofs.Encodable.{fits}
use Rattle.fwd_msgpack.proofs.CanonicalEncodes.{canonical_encodes}
use Rattle.fwd_event.specs.declared.event.Event.{Event}
use Rattle.fwd_event.specs.Event.{event_val, event_of, EventFits, AreEvents}
use Rattle.fwd_event.proofs.EventParts.{pairs_back}

pub event_bytes : (e : Event) → canonical (event_val e) ≡ (146 ∷ 146 ∷ 215 ∷ 0 ∷ (to_be_bytes w32 e.sec ++ to_be_bytes w32 e.nsec)) ++ (canonical (mapping (entries_of e.meta)) ++ canonical (mapping (entries_of e.body)))
unfolding list_head ext_head
event_bytes e = simp (append_assoc, append-nil)

event_back : (e : Event) → e.sec < 2 ^ 32 → e.nsec < 2 ^ 32 → event_of (event_val e) ≡ Some e
event_back e a b =
    let one : from_be_bytes w32 (to_be_bytes w32 e.sec) ≡ e.sec = from_be_bytes-to_be_bytes_4 e.sec a in
    let two : from_be_bytes w32 (to_be_bytes w32 e.nsec) ≡ e.nsec = from_be_bytes-to_be_bytes_4 e.nsec b in
    λ i. Some (record { sec = one i; nsec = two i; meta = pairs_back e.meta i; body = pairs_back e.body i })

pub written_is : (e : Event) → e.sec < 2 ^ 32 → e.nsec < 2 ^ 32 → EventFits e → IsInRange (mapping (entries_of e.meta)) → IsInRange (mapping (entries_of e.body)) → AreEvents (e ∷ []) (canonical (event_val e))
written_is e a b f meta body =
    let v = event_val e in
    let range : IsInRange v = ((omega arith, (meta, tt)), (body, tt)) in
    (v, canonical v, [], sym (append-nil (canonical v)), canonical_encodes v (fits v range (omega arith, ((omega arith, (omega arith, (f.meta_lengths, tt))), (f.body_lengths, tt)))), omega (arith, f.meta_nested, f.body_nested), event_back e a b, refl)
