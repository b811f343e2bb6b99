-- Bytes have exactly one answer.
use Rattle.std.proofs.Common.{◌≡◌, ℕ, ◌≤◌, ◌<◌, List, length, take, drop, Some, None, Result, Ok, Err, refl, sym, ap, subst, ◌∙◌, arith, inl, inr, ◌⊎◌, ◌↔◌}
use Rattle.std.specs.Prelude.{IfOk}
use Rattle.fwd_base.specs.declared.memory.Memory.{Memory as NoMemory}
use Rattle.std.proofs.lemmas.Bool.{cases_lt}
use Rattle.std.proofs.lemmas.List.{take_all}
use Rattle.fwd_value.specs.Val.{Val}
use Rattle.fwd_msgpack.specs.DecodeAnswers.{EncodesPrefix, IsUnused, IsListOrMap}
use Rattle.fwd_event.specs.declared.event.Event.{Event}
use Rattle.fwd_event.specs.declared.errors.EventErr.{EventErr}
use Rattle.fwd_event.specs.declared.errors.EventErr.TheVariants.{Short, Unused, TooDeep, Memory, NotAnEvent}
use Rattle.fwd_event.specs.Event.{event_of, AreEvents, IsWholePrefix}
use Rattle.fwd_event.specs.ReadAnswers.{EventsRead, OutcomeAt, FailsAt, IsAnswer, IsMemory}
use Rattle.fwd_msgpack.proofs.Exclusive.{one_value, prefix_not_value, prefix_not_stop, one_stop, unused_not_deep}
use Rattle.fwd_event.proofs.EventLists.{event_at, events_same}

none_some : (e : Event) → None ≡ Some e → ⊥
none_some e h = cc

-- there is no event at the offset of an error
pub stops_not_event : (x : EventErr) (p : ℕ) (b : List ℕ) (v : Val) (e : Event) (n : ℕ) → FailsAt x p b → EncodesPrefix v n b → event_of v ≡ Some e → ⊥
stops_not_event Short p b v e n s f is = prefix_not_value b v n s f
stops_not_event (Unused at) p b v e n s f is = s.1.0 v n f
stops_not_event (TooDeep at) p b v e n s f is = s.1.0 v n f
stops_not_event Memory p b v e n s f is = s
stops_not_event (NotAnEvent at) p b v e n s f is = none_some e (sym s.3 ∙ ap event_of (one_value s.0 v s.1 n b s.2 f) ∙ is)

one_cause : (x y : EventErr) (p : ℕ) (b : List ℕ) → FailsAt x p b → FailsAt y p b → x ≡ y
one_cause Short Short p b s t = refl
one_cause Short (Unused at) p b s t = absurd (prefix_not_stop IsUnused b t.0 s t.1)
one_cause Short (TooDeep at) p b s t = absurd (prefix_not_stop IsListOrMap b t.0 s t.1)
one_cause Short Memory p b s t = absurd t
one_cause Short (NotAnEvent at) p b s t = absurd (prefix_not_value b t.0 t.1 s t.2)
one_cause (Unused at) Short p b s t = absurd (prefix_not_stop IsUnused b s.0 t s.1)
one_cause (Unused at) (Unused to) p b s t = ap Unused (omega (arith, s.2, t.2, one_stop b s.0 t.0 s.1.1 t.1.1))
one_cause (Unused at) (TooDeep to) p b s t = absurd (unused_not_deep b s.0 t.0 s.1 t.1)
one_cause (Unused at) Memory p b s t = absurd t
one_cause (Unused at) (NotAnEvent to) p b s t = absurd (s.1.0 t.0 t.1 t.2)
one_cause (TooDeep at) Short p b s t = absurd (prefix_not_stop IsListOrMap b s.0 t s.1)
one_cause (TooDeep at) (Unused to) p b s t = absurd (unused_not_deep b t.0 s.0 t.1 s.1)
one_cause (TooDeep at) (TooDeep to) p b s t = ap TooDeep (omega (arith, s.2, t.2, one_stop b s.0 t.0 s.1.1 t.1.1))
one_cause (TooDeep at) Memory p b s t = absurd t
one_cause (TooDeep at) (NotAnEvent to) p b s t = absurd (s.1.0 t.0 t.1 t.2)
one_cause Memory y p b s t = absurd s
one_cause (NotAnEvent at) Short p b s t = absurd (prefix_not_value b s.0 s.1 t s.2)
one_cause (NotAnEvent at) (Unused to) p b s t = absurd (t.1.0 s.0 s.1 s.2)
one_cause (NotAnEvent at) (TooDeep to) p b s t = absurd (t.1.0 s.0 s.1 s.2)
one_cause (NotAnEvent at) Memory p b s t = absurd t
one_cause (NotAnEvent at) (NotAnEvent to) p b s t = ap NotAnEvent (omega (arith, s.4, t.4))

-- no list of events reaches past the offset of an error
pub not_past : (x : EventErr) (es fs : List Event) (p m : ℕ) (b : List ℕ) → AreEvents es (take p b) → FailsAt x p (drop p b) → AreEvents fs (take m b) → m ≤ length b → m ≤ p
not_past x es fs p m b a s f le = elim (cases_lt p m) [
  | inl lt ↦ let h = event_at es fs p m b a f lt le in absurd (stops_not_event x p (drop p b) h.0 h.1 h.2 s h.3 h.4)
  | inr ge ↦ ge
]

all_of : (es : List Event) (b : List ℕ) → AreEvents es b → AreEvents es (take (length b) b)
all_of es b a = subst (AreEvents es) (sym (take_all (length b) b (omega arith))) a

one_answer : (r s : EventsRead) (b : List ℕ) → IsAnswer r b → IsAnswer s b → r ≡ s
one_answer (Ok es) (Ok fs) b x y = ap Ok (events_same es fs b x y)
one_answer (Ok es) (Err f) b x y = absurd (omega (arith, y.1.within, not_past f y.1.events es y.0 (length b) b y.1.are y.2 (all_of es b x) (omega arith)))
one_answer (Err e) (Ok fs) b x y = absurd (omega (arith, x.1.within, not_past e x.1.events fs x.0 (length b) b x.1.are x.2 (all_of fs b y) (omega arith)))
one_answer (Err e) (Err f) b x y =
    let p : x.0 ≡ y.0 = omega (
      arith,
      x.1.within,
      y.1.within,
      not_past e x.1.events y.1.events x.0 y.0 b x.1.are x.2 y.1.are (omega (arith, y.1.within)),
      not_past f y.1.events x.1.events y.0 x.0 b y.1.are y.2 x.1.are (omega (arith, x.1.within)),
    ) in
    ap Err (one_cause e f y.0 (drop y.0 b) (subst (λ (i : ℕ). FailsAt e i (drop i b)) p x.2) y.2)

-- an answer, unless memory was out, is the only one
pub exactly : (r : EventsRead) (b : List ℕ) → IsMemory r ⊎ IsAnswer r b → (s : EventsRead) → IsMemory r ⊎ ((r ≡ s) ↔ IsAnswer s b)
exactly r b h s = elim h [
  | inl m ↦ inl m
  | inr a ↦ inr (λ e. subst (λ (t : EventsRead). IsAnswer t b) e a, one_answer r s b a)
]

-- ---- the steps of the loop

pub stopped : (e : EventErr) (es : List Event) (p : ℕ) (b : List ℕ) → AreEvents es (take p b) → p < length b → OutcomeAt p (drop p b) (Err e) → IsMemory (Err e) ⊎ IsAnswer (Err e) b
stopped Short es p b a lt h = inr (p, record { events = es; are = a; within = lt }, h)
stopped (Unused at) es p b a lt h = inr (p, record { events = es; are = a; within = lt }, h)
stopped (TooDeep at) es p b a lt h = inr (p, record { events = es; are = a; within = lt }, h)
stopped Memory es p b a lt h = inl tt
stopped (NotAnEvent at) es p b a lt h = inr (p, record { events = es; are = a; within = lt }, h)

pub read_all : (es : List Event) (p : ℕ) (b : List ℕ) → AreEvents es (take p b) → length b ≤ p → AreEvents es b
read_all es p b a le = subst (AreEvents es) (take_all p b le) a

longest_at : (e : EventErr) (es : List Event) (p : ℕ) (b : List ℕ) → AreEvents es (take p b) → p < length b → FailsAt e p (drop p b) → IsWholePrefix es p b
longest_at e es p b a lt s = record { within = omega arith; are = a; longest = λ m fs le f. not_past e es fs p m b a s f le }

pub whole_at : (e : EventErr) (es : List Event) (p : ℕ) (b : List ℕ) → AreEvents es (take p b) → p < length b → OutcomeAt p (drop p b) (Err e) → (e ≡ Memory → ⊥) → IsWholePrefix es p b
whole_at Short es p b a lt h never = longest_at Short es p b a lt h
whole_at (Unused at) es p b a lt h never = longest_at (Unused at) es p b a lt h
whole_at (TooDeep at) es p b a lt h never = longest_at (TooDeep at) es p b a lt h
whole_at Memory es p b a lt h never = absurd (never refl)
whole_at (NotAnEvent at) es p b a lt h never = longest_at (NotAnEvent at) es p b a lt h

pair_is : (es fs : List Event) (p q : ℕ) → es ≡ fs → p ≡ q → ◌≡◌ {A = List Event × ℕ} (es, p) (fs, q)
pair_is es fs p q e f = λ i. (e i, f i)

pub kept_whole : (r : Result (List Event × ℕ) NoMemory) (e : EventErr) (es : List Event) (p : ℕ) (b : List ℕ) → AreEvents es (take p b) → p < length b → OutcomeAt p (drop p b) (Err e)
    → IfOk r (λ x. (x.0 ≡ es) × (x.1 ≡ p) × (e ≡ Memory → ⊥)) → IfOk r (λ x. IsWholePrefix x.0 x.1 b)
kept_whole (Ok x) e es p b a lt h k = subst (λ (y : List Event × ℕ). IsWholePrefix y.0 y.1 b) (pair_is es x.0 p x.1 (sym k.0) (sym k.1)) (whole_at e es p b a lt h k.2)
kept_whole (Err m) e es p b a lt h k = tt
