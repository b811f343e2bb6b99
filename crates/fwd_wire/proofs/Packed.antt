-- Events computed by reading are those that the bytes encode.
use Rattle.std.proofs.Common.{◌≡◌, ◌↔◌, ℕ, zero, suc, ◌≤◌, ◌<◌, List, [], ◌∷◌, length, Option, Some, None, Ok, Err, refl, sym, ap, subst, ◌∙◌, arith}
use Rattle.std.proofs.lemmas.List.{length-append}
use Rattle.fwd_value.specs.Val.{Val}
use Rattle.fwd_msgpack.specs.Encodings.{Encodes}
use Rattle.fwd_msgpack.specs.Decoder.{Read, value_at}
use Rattle.fwd_msgpack.proofs.Grammar.{reads}
use Rattle.fwd_event.specs.declared.event.Event.{Event}
use Rattle.fwd_event.specs.Event.{event_of, AreEvents}
use Rattle.fwd_wire.specs.Message.{in_front}
use Rattle.fwd_wire.specs.Decode.{next_event, events_by, packed_events}

same_events : (es fs : List Event) → ◌≡◌ {A = Option (List Event)} (Some es) (Some fs) → es ≡ fs
same_events es fs e = cc

-- an event before others
pub fronted : (o : Option Event) (p : Option (List Event)) (es : List Event) → in_front o p ≡ Some es → (e : Event) × (fs : List Event) × (o ≡ Some e) × (p ≡ Some fs) × (es ≡ e ∷ fs)
fronted (Some e) (Some fs) es h = (e, fs, refl, refl, sym (same_events (e ∷ fs) es h))
fronted (Some e) None es h = absurd cc
fronted None p es h = absurd cc

next_are : (p : List ℕ → Option (List Event)) → ((b : List ℕ) (es : List Event) → p b ≡ Some es → AreEvents es b)
    → (b : List ℕ) (es : List Event) (r : Read Val) → value_at 64 b ≡ r → next_event p r ≡ Some es → AreEvents es b
next_are p are b es (Ok x) e h =
    let f = fronted (event_of x.0) (p x.1) es h in
    let s = (reads 64).sound b x.0 x.1 e in
    subst (λ (fs : List Event). AreEvents fs b) (sym f.4) (x.0, s.0, x.1, s.1, s.2.0, s.2.1, f.2, are x.1 f.1 f.3)
next_are p are b es (Err f) e h = absurd cc

events_are : (n : ℕ) (b : List ℕ) (es : List Event) → events_by n b ≡ Some es → AreEvents es b
events_are n [] es h = subst (λ (fs : List Event). AreEvents fs []) (same_events [] es h) refl
events_are zero (c ∷ b) es h = absurd cc
events_are (suc n) (c ∷ b) es h = next_are (events_by n) (events_are n) (c ∷ b) es (value_at 64 (c ∷ b)) refl h

some_byte : (v : Val) (front : List ℕ) → Encodes v front → 0 < length front
some_byte v [] s = absurd s
some_byte v (c ∷ front) s = omega arith

are_read : (n : ℕ) (es : List Event) (b : List ℕ) → AreEvents es b → length b ≤ n → events_by n b ≡ Some es
are_read n [] b a le = ap (events_by n) a
are_read n (e ∷ es) [] a le = absurd (omega (arith, ap length a.3, length-append a.1 a.2, some_byte a.0 a.1 a.4))
are_read zero (e ∷ es) (c ∷ b) a le = absurd (omega (arith, le))
are_read (suc n) (e ∷ es) (c ∷ b) a le =
    let is : value_at 64 (c ∷ b) ≡ Ok (a.0, a.2) = ap (value_at 64) a.3 ∙ (reads 64).whole a.0 a.1 a.2 (a.4, a.5) in
    let more : events_by n a.2 ≡ Some es = are_read n es a.2 a.7 (omega (arith, le, ap length a.3, length-append a.1 a.2, some_byte a.0 a.1 a.4)) in
    ap (next_event (events_by n)) is ∙ ap (λ (o : Option Event). in_front o (events_by n a.2)) a.6 ∙ ap (λ (o : Option (List Event)). in_front (Some e) o) more

pub packed_exactly : (es : List Event) (b : List ℕ) → (packed_events b ≡ Some es) ↔ AreEvents es b
packed_exactly es b = (events_are (length b) b es, λ a. are_read (length b) es b a (omega arith))
