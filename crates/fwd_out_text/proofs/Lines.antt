-- An event that is written directly from its encoding.
use Rattle.std.proofs.Common.{◌≡◌, ℕ, ◌+◌, ◌-◌, List, [], ◌∷◌, ◌++◌, length, take, refl, sym, ap, subst, ◌∙◌, append_assoc, arith}
use Rattle.std.proofs.lemmas.List.{length-append, take_at}
use Rattle.fwd_value.specs.Val.{Val, mapping, entries_of}
use Rattle.fwd_msgpack.specs.Encodings.{Encodes}
use Rattle.fwd_msgpack.specs.DecodeAnswers.{EncodesPrefix}
use Rattle.fwd_msgpack.specs.Heads.{StartsWithMap}
use Rattle.fwd_msgpack.proofs.EncodeLoops.{how_many_entries_is}
use Rattle.fwd_event.specs.declared.event.Event.{Event}
use Rattle.fwd_event.proofs.PartwiseDecoding.{empty_encoded, event_encoded}
use Rattle.fwd_out_text.specs.FirstEvent.{StartsWithEvent}
use Rattle.fwd_out_text.specs.Headers.{deepest_member, StartsWithHeader, StartsWithPairs}

-- a suffix of the bytes isn't longer than they are
pub not_longer : (front rest b : List ℕ) → b ≡ front ++ rest → length b ≡ length front + length rest
not_longer front rest b e = ap length e ∙ length-append front rest

-- the map whose header and pairs were decoded
map_encoded : (count : ℕ) (ps : List (Val × Val)) (body pairs rest : List ℕ) → StartsWithMap count pairs body → length ps ≡ count → StartsWithPairs deepest_member ps rest pairs → EncodesPrefix (mapping (entries_of ps)) (length body - length rest) body
map_encoded count ps body pairs rest m many p =
    let front = m.0 ++ p.front in
    let parts : body ≡ front ++ rest = m.1 ∙ ap (λ (t : List ℕ). m.0 ++ t) p.parts ∙ sym (append_assoc m.0 p.front rest) in
    let k = length body - length rest in
    let size : length front ≡ k = omega (arith, not_longer front rest body parts) in
    let first : take k body ≡ front = ap (take k) parts ∙ take_at front rest k size in
    let encoded : Encodes (mapping (entries_of ps)) front = m.2 (entries_of ps) p.front (how_many_entries_is ps ∙ many) p.encoded in
    (omega arith, subst (Encodes (mapping (entries_of ps))) (sym first) encoded, omega (arith, p.nested))

-- the event whose parts were decoded
event_begins : (sec nsec count : ℕ) (ps : List (Val × Val)) (b pairs rest : List ℕ) → StartsWithHeader sec nsec count pairs b → length ps ≡ count → StartsWithPairs deepest_member ps rest pairs
    → StartsWithEvent (record { sec = sec; nsec = nsec; meta = []; body = ps }) (length b - length rest) b
event_begins sec nsec count ps b pairs rest h many p =
    let body = h.0 in
    let l = h.1 in
    let m = h.2 in
    let none = empty_encoded (128 ∷ body) [] refl (omega arith) refl in
    let k = length body - length rest in
    let event = event_encoded b l.0 (128 ∷ body) 1 k sec nsec [] ps l.1 l.2 l.3 none.0 (omega arith) (map_encoded count ps body pairs rest m many p) p.nested in
    let size : 12 + 1 + k ≡ length b - length rest = omega (arith, l.2, ap length l.1, length-append l.0 (128 ∷ body), not_longer m.0 pairs body m.1, not_longer p.front rest pairs p.parts) in
    (event.0, subst (λ (n : ℕ). EncodesPrefix event.0 n b) size event.1, event.2)

-- the event was written, with some text before its record and some after it
pub event_written : (sec nsec count : ℕ) (b pairs rest : List ℕ) (text : List (Val × Val) → List ℕ) (before behind old start middle new : List ℕ) (written : Event → List ℕ)
    → ((ps : List (Val × Val)) → written (record { sec = sec; nsec = nsec; meta = []; body = ps }) ≡ before ++ text ps ++ behind)
    → StartsWithHeader sec nsec count pairs b → start ≡ old ++ before → ((ps : List (Val × Val)) × (length ps ≡ count) × StartsWithPairs deepest_member ps rest pairs × (middle ≡ start ++ text ps)) → new ≡ middle ++ behind
    → (e : Event) × StartsWithEvent e (length b - length rest) b × (new ≡ old ++ written e)
event_written sec nsec count b pairs rest text before behind old start middle new written is h one w two =
    let body = text w.0 in
    let said : new ≡ old ++ ((before ++ body) ++ behind) =
    two ∙ ap (λ (t : List ℕ). t ++ behind) (w.3 ∙ ap (λ (t : List ℕ). t ++ body) one ∙ append_assoc old before body) ∙ append_assoc old (before ++ body) behind in
    (record { sec = sec; nsec = nsec; meta = []; body = w.0 }, event_begins sec nsec count w.0 b pairs rest h w.1 w.2, said ∙ ap (λ (t : List ℕ). old ++ t) (sym (is w.0)))
