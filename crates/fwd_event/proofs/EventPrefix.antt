-- The events that `events_in` finds are the longest list of them, and the only one.
use Rattle.std.proofs.Common.{◌≡◌, ℕ, zero, suc, ◌-◌, ◌≤◌, ◌<◌, List, [], ◌∷◌, ◌++◌, length, take, drop, Option, Some, None, Ok, Err, refl, sym, ap, subst, ◌∙◌, append_assoc, arith, inl, inr}
use Rattle.std.specs.Prelude.{All}
use Rattle.std.proofs.lemmas.Bool.{cases_lt}
use Rattle.std.proofs.lemmas.List.Elements.{All-head, All-tail}
use Rattle.std.proofs.lemmas.List.{take_at, drop_at, take-append-drop, length-append, nil_from_length}
use Rattle.fwd_value.specs.Val.{Val}
use Rattle.fwd_value.specs.Limits.{nesting}
use Rattle.fwd_msgpack.specs.Canonical.{canonical}
use Rattle.fwd_msgpack.specs.Encodings.{Encodes}
use Rattle.fwd_msgpack.specs.DecodeAnswers.{EncodesPrefix}
use Rattle.fwd_msgpack.specs.Decoder.{Read, value_at, value_by}
use Rattle.fwd_msgpack.proofs.Grammar.{reads}
use Rattle.fwd_event.specs.declared.event.Event.{Event}
use Rattle.fwd_event.specs.Event.{event_of, event_val, AreEvents, IsWholePrefix}
use Rattle.fwd_event.specs.EventPrefix.{Next, with_rest, next_of, next_in, EventSplit, with_event, event_split_by, event_split, events_in, encodings, IsWritable}
use Rattle.fwd_event.proofs.EventEncodings.{written_is}
use Rattle.fwd_event.proofs.EventLists.{are_more, event_at}

abbrev some_next : Event × List ℕ → Next
some_next x = Some x

abbrev no_next : Next
no_next = None

next_apart : (x : Event × List ℕ) → no_next ≡ some_next x → ⊥
next_apart x e = cc

next_same : (x y : Event × List ℕ) → some_next x ≡ some_next y → x ≡ y
next_same x y e = cc

-- ---- one event

of_event : (o : Option Event) (rest : List ℕ) (e : Event) → o ≡ Some e → with_rest o rest ≡ some_next (e, rest)
of_event o rest e h = ap (λ (p : Option Event). with_rest p rest) h

of_value : (r : Read Val) (v : Val) (rest : List ℕ) (e : Event) → r ≡ Ok (v, rest) → event_of v ≡ Some e → next_of r ≡ some_next (e, rest)
of_value r v rest e h is = ap next_of h ∙ of_event (event_of v) rest e is

-- an encoding of an event at the beginning of the bytes is the next event
pub next_is : (v : Val) (e : Event) (front back : List ℕ) → Encodes v front → nesting v ≤ 64 → event_of v ≡ Some e → next_in (front ++ back) ≡ some_next (e, back)
unfolding next_in
next_is v e front back s deep is = of_value (value_at 64 (front ++ back)) v back e ((reads 64).whole v front back (s, deep)) is

pub record Begun (e : Event) (b rest : List ℕ) : Type 0 where
  pub value : Val
  pub front : List ℕ
  pub parts : b ≡ front ++ rest
  pub encodes : Encodes value front
  pub nested : nesting value ≤ 64
  pub event : event_of value ≡ Some e

event_back : (o : Option Event) (rest : List ℕ) (x : Event × List ℕ) → with_rest o rest ≡ some_next x → (o ≡ Some x.0) × (rest ≡ x.1)
event_back None rest x h = absurd (next_apart x h)
event_back (Some e) rest x h = let same = next_same (e, rest) x h in (ap (λ (y : Event × List ℕ). Some y.0) same, ap (λ (y : Event × List ℕ). y.1) same)

value_back : (r : Read Val) (b : List ℕ) (x : Event × List ℕ) → value_at 64 b ≡ r → next_of r ≡ some_next x → Begun x.0 b x.1
value_back (Err f) b x h n = absurd (next_apart x n)
value_back (Ok y) b x h n =
    let is = event_back (event_of y.0) y.1 x n in
    let s = (reads 64).sound b y.0 y.1 h in
    record { value = y.0; front = s.0; parts = s.1 ∙ ap (λ (t : List ℕ). s.0 ++ t) is.1; encodes = s.2.0; nested = s.2.1; event = is.0 }

pub next_begins : (b : List ℕ) (x : Event × List ℕ) → next_in b ≡ some_next x → Begun x.0 b x.1
unfolding next_in
next_begins b x n = value_back (value_at 64 b) b x refl n

nothing_next : next_in [] ≡ no_next
unfolding next_in value_by
nothing_next = refl

some_byte : (v : Val) (front : List ℕ) → Encodes v front → 0 < length front
some_byte v [] s = absurd s
some_byte v (c ∷ front) s = omega arith

-- ---- all events at the beginning

parted_nothing : (n : ℕ) → event_split n [] ≡ ([], [])
unfolding event_split
parted_nothing zero = refl
parted_nothing (suc n) = ap (event_split_by (event_split n) []) nothing_next

-- bytes that are events split into these and no rest
pub parted_are : (n : ℕ) (es : List Event) (b : List ℕ) → length b ≤ n → AreEvents es b → event_split n b ≡ (es, [])
unfolding event_split
parted_are n [] b le a = ap (event_split n) a ∙ parted_nothing n
parted_are zero (e ∷ es) b le a = absurd (omega (arith, some_byte a.0 a.1 a.4, ap length a.3, length-append a.1 a.2))
parted_are (suc n) (e ∷ es) b le a =
    let next : next_in b ≡ some_next (e, a.2) = ap next_in a.3 ∙ next_is a.0 e a.1 a.2 a.4 a.5 a.6 in
    let shorter : length a.2 ≤ n = omega (arith, some_byte a.0 a.1 a.4, ap length a.3, length-append a.1 a.2) in
    ap (event_split_by (event_split n) b) next ∙ ap (with_event e) (parted_are n es a.2 shorter a.7)

-- the split of the bytes: events, and bytes that begin with no event
pub record IsParted (x : EventSplit) (b : List ℕ) : Type 0 where
  pub front : List ℕ
  pub parts : b ≡ front ++ x.1
  pub are : AreEvents x.0 front
  pub stops : next_in x.1 ≡ no_next

parted_next : (n : ℕ) (b : List ℕ) (o : Next) → next_in b ≡ o → length b ≤ suc n → ((c : List ℕ) → length c ≤ n → IsParted (event_split n c) c) → IsParted (event_split_by (event_split n) b o) b
parted_next n b None h le more = record { front = []; parts = refl; are = refl; stops = h }
parted_next n b (Some x) h le more =
    let f = next_begins b x h in
    let g = more x.1 (omega (arith, some_byte f.value f.front f.encodes, ap length f.parts, length-append f.front x.1)) in
    record {
      front = f.front ++ g.front;
      parts = f.parts ∙ ap (λ (t : List ℕ). f.front ++ t) g.parts ∙ sym (append_assoc f.front g.front (event_split n x.1).1);
      are = (f.value, f.front, g.front, refl, f.encodes, f.nested, f.event, g.are);
      stops = g.stops;
    }

pub parted_is : (n : ℕ) (b : List ℕ) → length b ≤ n → IsParted (event_split n b) b
unfolding event_split
parted_is zero b le =
    let none : b ≡ [] = nil_from_length b (omega arith) in
    record { front = []; parts = refl; are = refl; stops = ap next_in none ∙ nothing_next }
parted_is (suc n) b le = parted_next n b (next_in b) refl le (parted_is n)

-- ---- the theorems

not_longer : (x : EventSplit) (b : List ℕ) → IsParted x b → (m : ℕ) (others : List Event) → m ≤ length b → AreEvents others (take m b) → m ≤ length b - length x.1
not_longer x b p m others le a = elim (cases_lt (length p.front) m) [
  | inr ge ↦ omega (arith, ge, ap length p.parts, length-append p.front x.1)
  | inl lt ↦
      let front : take (length p.front) b ≡ p.front = ap (take (length p.front)) p.parts ∙ take_at p.front x.1 (length p.front) refl in
      let back : drop (length p.front) b ≡ x.1 = ap (drop (length p.front)) p.parts ∙ drop_at p.front x.1 (length p.front) refl in
      let h = event_at x.0 others (length p.front) m b (rw front p.are) a lt le in
      let whole : x.1 ≡ take h.2 x.1 ++ drop h.2 x.1 = sym (take-append-drop h.2 x.1) in
      let encoded : EncodesPrefix h.0 h.2 x.1 = subst (EncodesPrefix h.0 h.2) back h.3 in
      absurd (next_apart (h.1, drop h.2 x.1) (sym p.stops ∙ ap next_in whole ∙ next_is h.0 h.1 (take h.2 x.1) (drop h.2 x.1) encoded.1 encoded.2 h.4))
]

prefix_of : (x : EventSplit) (b : List ℕ) → IsParted x b → IsWholePrefix x.0 (length b - length x.1) b
prefix_of x b p =
    let n = length b - length x.1 in
    let size : length p.front ≡ n = omega (arith, ap length p.parts, length-append p.front x.1) in
    let front : take n b ≡ p.front = ap (take n) p.parts ∙ take_at p.front x.1 n size in
    record { within = omega arith; are = rw front p.are; longest = not_longer x b p }

pub whole_prefix_of : (b : List ℕ) → IsWholePrefix (events_in b).0 (events_in b).1 b
unfolding events_in
whole_prefix_of b = prefix_of (event_split (length b) b) b (parted_is (length b) b (omega arith))

pub all_events : (es : List Event) (b : List ℕ) → AreEvents es b → events_in b ≡ (es, length b)
unfolding events_in
all_events es b a =
    let n = length b in
    let x = event_split n b in
    let e : x ≡ (es, []) = parted_are n es b (omega arith) a in
    let size : n - length x.1 ≡ n = omega (arith, ap (λ (y : EventSplit). length y.1) e) in
    λ i. ((e i).0, size i)

pub events_all : (es : List Event) (b : List ℕ) → events_in b ≡ (es, length b) → AreEvents es b
events_all es b e =
    let p = whole_prefix_of b in
    let all : take (events_in b).1 b ≡ b = ap (λ (x : List Event × ℕ). take x.1 b) e ∙ whole b in
    subst (λ (x : List Event). AreEvents x b) (ap (λ (x : List Event × ℕ). x.0) e) (subst (AreEvents (events_in b).0) all p.are)
  where
    whole : (c : List ℕ) → take (length c) c ≡ c
    whole [] = refl
    whole (x ∷ c) = ap (λ (t : List ℕ). x ∷ t) (whole c)

pub encodings_are : (es : List Event) → All IsWritable es → AreEvents es (encodings es)
encodings_are [] h = refl
encodings_are (e ∷ es) h =
    let w = All-head IsWritable e es h in
    are_more (e ∷ []) es (canonical (event_val e)) (encodings es) (written_is e w.sec w.nsec w.fits w.meta w.body) (encodings_are es (All-tail IsWritable e es h))

pub encodings_back : (es : List Event) → All IsWritable es → events_in (encodings es) ≡ (es, length (encodings es))
encodings_back es h = all_events es (encodings es) (encodings_are es h)
