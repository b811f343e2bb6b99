-- Decoding part by part of an event in the format that is written.
use Rattle.std.proofs.Common.{◌≡◌, ℕ, ◌+◌, ◌-◌, ◌≤◌, pos, List, [], ◌∷◌, ◌++◌, length, take, drop, get_or, Option, Some, refl, sym, ap, subst, ◌∙◌, append_assoc, arith}
use Rattle.std.proofs.lemmas.List.{append-nil, length-append, length-take, take-append-drop, take_all}
use Rattle.fwd_value.specs.Val.{Val, ext, list, mapping, no_vals, val, Entries, no_entries, entries_of}
use Rattle.fwd_value.specs.Limits.{entry_nestings}
use Rattle.fwd_msgpack.specs.Table.{form_of}
use Rattle.fwd_msgpack.specs.Encodings.{Encodes}
use Rattle.fwd_msgpack.specs.DecodeAnswers.{EncodesPrefix}
use Rattle.fwd_event.specs.Event.{Timestamp, event_of, event_time, event_at}
use Rattle.fwd_event.proofs.EventParts.{pairs_back}

abbrev written : List ℕ → Entries → Entries → Val
written time meta body = list (val (list (val (ext (pos 0) time) (val (mapping meta) no_vals))) (val (mapping body) no_vals))

abbrev written_event : List ℕ → List ℕ → List ℕ
written_event time maps = 146 ∷ 146 ∷ 215 ∷ 0 ∷ (time ++ maps)

encodes : (time first second : List ℕ) (meta body : Entries) → length time ≡ 8 → Encodes (mapping meta) first → Encodes (mapping body) second → Encodes (written time meta body) (written_event time (first ++ second))
unfolding form_of
encodes time first second meta body eight one two =
    let stamp : Encodes (ext (pos 0) time) (215 ∷ 0 ∷ time) = ([], 0, (eight, refl), refl, refl) in
    let head : Encodes (list (val (ext (pos 0) time) (val (mapping meta) no_vals))) (146 ∷ 215 ∷ 0 ∷ (time ++ first)) =
    ([], 215 ∷ 0 ∷ (time ++ first), (refl, refl), refl, (215 ∷ 0 ∷ time, first, refl, stamp, (first, [], sym (append-nil first), one, refl))) in
    let parts : 146 ∷ 215 ∷ 0 ∷ (time ++ (first ++ second)) ≡ (146 ∷ 215 ∷ 0 ∷ (time ++ first)) ++ second = ap (λ (l : List ℕ). 146 ∷ 215 ∷ 0 ∷ l) (sym (append_assoc time first second)) in
    ([], 146 ∷ 215 ∷ 0 ∷ (time ++ (first ++ second)), (refl, refl), refl, (146 ∷ 215 ∷ 0 ∷ (time ++ first), second, parts, head, (second, [], sym (append-nil second), two, refl)))

-- bytes with these first ones, by those after them
pub opening : (b rest : List ℕ) → 4 ≤ length b → get_or b 0 0 ≡ 146 → get_or b 1 0 ≡ 146 → get_or b 2 0 ≡ 215 → get_or b 3 0 ≡ 0 → rest ≡ take (length b - 4) (drop 4 b) → b ≡ 146 ∷ 146 ∷ 215 ∷ 0 ∷ rest
opening [] rest long a c d e is = absurd (omega (arith, long))
opening (w ∷ []) rest long a c d e is = absurd (omega (arith, long))
opening (w ∷ x ∷ []) rest long a c d e is = absurd (omega (arith, long))
opening (w ∷ x ∷ y ∷ []) rest long a c d e is = absurd (omega (arith, long))
opening (w ∷ x ∷ y ∷ z ∷ b) rest long a c d e is =
    let behind : rest ≡ b = is ∙ take_all (length (w ∷ x ∷ y ∷ z ∷ b) - 4) b (omega arith) in
    λ i. a i ∷ c i ∷ d i ∷ e i ∷ sym behind i

-- the first bytes of two parts
front_of : (front back : List ℕ) (n : ℕ) → n ≡ length front → take n (front ++ back) ≡ front
front_of [] back n is = ap (λ (k : ℕ). take k back) is
front_of (x ∷ front) back n is = ap (λ (k : ℕ). take k ((x ∷ front) ++ back)) is ∙ ap (λ (l : List ℕ). x ∷ l) (front_of front back (length front) refl)

pub event_encoded : (b time maps : List ℕ) (m k sec nsec : ℕ) (meta body : List (Val × Val)) → b ≡ written_event time maps → length time ≡ 8 → event_time time ≡ Some (sec, nsec)
    → EncodesPrefix (mapping (entries_of meta)) m maps → entry_nestings (entries_of meta) ≤ 61 → EncodesPrefix (mapping (entries_of body)) k (drop m maps) → entry_nestings (entries_of body) ≤ 62
    → (v : Val) × EncodesPrefix v (12 + m + k) b × (event_of v ≡ Some (record { sec = sec; nsec = nsec; meta = meta; body = body }))
event_encoded b time maps m k sec nsec meta body is eight moment one shallow two low =
    let first = take m maps in
    let second = take k (drop m maps) in
    let back = drop k (drop m maps) in
    let v = written time (entries_of meta) (entries_of body) in
    let all : maps ≡ (first ++ second) ++ back =
    sym (take-append-drop m maps) ∙ ap (λ (l : List ℕ). first ++ l) (sym (take-append-drop k (drop m maps))) ∙ sym (append_assoc first second back) in
    let whole : b ≡ written_event time (first ++ second) ++ back = is ∙ ap (written_event time) all ∙ ap (λ (l : List ℕ). 146 ∷ 146 ∷ 215 ∷ 0 ∷ l) (sym (append_assoc time (first ++ second) back)) in
    let size : 12 + m + k ≡ length (written_event time (first ++ second)) =
    omega (arith, eight, length-append time (first ++ second), length-append first second, length-take m maps, length-take k (drop m maps), one.0, two.0) in
    let front : take (12 + m + k) b ≡ written_event time (first ++ second) = ap (take (12 + m + k)) whole ∙ front_of (written_event time (first ++ second)) back (12 + m + k) size in
    let within : 12 + m + k ≤ length b = omega (arith, ap length whole, length-append (written_event time (first ++ second)) back, size) in
    let event : event_of v ≡ Some (record { sec = sec; nsec = nsec; meta = meta; body = body }) =
    ap (λ (o : Option Timestamp). event_at o (entries_of meta) (entries_of body)) moment ∙ (λ i. Some (record { sec = sec; nsec = nsec; meta = pairs_back meta i; body = pairs_back body i })) in
    (v, (within, subst (Encodes v) (sym front) (encodes time first second (entries_of meta) (entries_of body) eight one.1 two.1), omega (arith, shallow, low)), event)

-- a map without pairs is one byte
pub empty_encoded : (b : List ℕ) (pairs : List (Val × Val)) → pairs ≡ [] → 1 ≤ length b → get_or b 0 0 ≡ 128 → EncodesPrefix (mapping (entries_of pairs)) 1 b × (entry_nestings (entries_of pairs) ≡ 0)
unfolding form_of
empty_encoded [] pairs none long is = absurd (omega (arith, long))
empty_encoded (x ∷ b) pairs none long is =
    let one : Encodes (mapping no_entries) (128 ∷ []) = ([], [], (refl, refl), refl, refl) in
    let front : Encodes (mapping no_entries) (take 1 (x ∷ b)) = subst (λ (n : ℕ). Encodes (mapping no_entries) (n ∷ [])) (sym is) one in
    let empty : EncodesPrefix (mapping no_entries) 1 (x ∷ b) × (entry_nestings no_entries ≡ 0) = ((long, front, omega arith), refl) in
    subst (λ (l : List (Val × Val)). EncodesPrefix (mapping (entries_of l)) 1 (x ∷ b) × (entry_nestings (entries_of l) ≡ 0)) (sym none) empty
