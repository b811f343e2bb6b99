-- Bytes have one answer.
use Rattle.std.proofs.Common.{◌≡◌, ℕ, ◌<◌, ◌⊎◌, ◌↔◌, true, false, cond, ltb, List, length, Option, Some, None, refl, sym, ap, subst, ◌∙◌, arith, inl, inr}
use Rattle.std.proofs.lemmas.Bool.{lt-ltb, le-ltb}
use Rattle.std.proofs.lemmas.List.{take_all}
use Rattle.fwd_base.specs.Limits.{longest_message}
use Rattle.fwd_value.specs.Val.{Val}
use Rattle.fwd_msgpack.specs.DecodeAnswers.{EncodesPrefix, IsProperPrefix, FailsAtForm, IsUnused, IsListOrMap}
use Rattle.fwd_msgpack.proofs.Exclusive.{one_value, prefix_not_value, prefix_not_stop, one_stop, unused_not_deep}
use Rattle.fwd_msgpack.proofs.ScanAnswers.{one_length}
use Rattle.fwd_wire.specs.Message.{Verdict, says, compressed, no_message, MessageSays}
use Rattle.fwd_wire.specs.Answer.{Answer, message, short, not_a_message, is_compressed, too_long, front, IsAnswer}
use Rattle.fwd_wire.specs.Representation.{HasAnswer}
use Rattle.fwd_wire.proofs.OneVerdict.{message_one}

-- what the first bytes are: a value that says something, the beginning of one, or stopped at a position
pub data Seen : Type 0 where
  value : Verdict → ℕ → Seen
  cut : Seen
  stopped : ℕ → Seen

abbrev pub Sees : List ℕ → Seen → Type 0
Sees f (value v n) = (x : Val) × EncodesPrefix x n f × MessageSays x v
Sees f cut = IsProperPrefix f
Sees f (stopped at) = FailsAtForm IsUnused at f ⊎ FailsAtForm IsListOrMap at f

value_not_stop : (f : List ℕ) (v : Verdict) (n at : ℕ) → Sees f (value v n) → Sees f (stopped at) → ⊥
value_not_stop f v n at x (inl s) = s.0 x.0 n x.1
value_not_stop f v n at x (inr s) = s.0 x.0 n x.1

cut_not_stop : (f : List ℕ) (at : ℕ) → Sees f cut → Sees f (stopped at) → ⊥
cut_not_stop f at x (inl s) = prefix_not_stop IsUnused f at x s
cut_not_stop f at x (inr s) = prefix_not_stop IsListOrMap f at x s

stops_same : (f : List ℕ) (m n : ℕ) → Sees f (stopped m) → Sees f (stopped n) → m ≡ n
stops_same f m n (inl x) (inl y) = one_stop f m n x.1 y.1
stops_same f m n (inl x) (inr y) = absurd (unused_not_deep f m n x y)
stops_same f m n (inr x) (inl y) = absurd (unused_not_deep f n m y x)
stops_same f m n (inr x) (inr y) = one_stop f m n x.1 y.1

one_seen : (f : List ℕ) (s t : Seen) → Sees f s → Sees f t → s ≡ t
one_seen f (value v m) (value w n) x y =
    let same : x.0 ≡ y.0 = one_value x.0 y.0 m n f x.1 y.1 in
    let lengths : m ≡ n = one_length x.0 y.0 m n f x.1 y.1 in
    let verdicts : v ≡ w = message_one y.0 v w (subst (λ (z : Val). MessageSays z v) same x.2) y.2 in
    rw (lengths, verdicts) refl
one_seen f (value v m) cut x y = absurd (prefix_not_value f x.0 m y x.1)
one_seen f (value v m) (stopped n) x y = absurd (value_not_stop f v m n x y)
one_seen f cut (value w n) x y = absurd (prefix_not_value f y.0 n x y.1)
one_seen f cut cut x y = refl
one_seen f cut (stopped n) x y = absurd (cut_not_stop f n x y)
one_seen f (stopped m) (value w n) x y = absurd (value_not_stop f w n m y x)
one_seen f (stopped m) cut x y = absurd (cut_not_stop f m y x)
one_seen f (stopped m) (stopped n) x y = ap stopped (stops_same f m n x y)

-- the answer to this many bytes
abbrev answer_for : Seen → ℕ → Answer
answer_for (value (says s) n) len = message s n
answer_for (value compressed n) len = is_compressed
answer_for (value no_message n) len = not_a_message 0
answer_for cut len = cond (ltb len longest_message) short too_long
answer_for (stopped at) len = not_a_message at

seen_of : (b : List ℕ) (a : Answer) → IsAnswer b a → (s : Seen) × Sees (front b) s × (a ≡ answer_for s (length b))
seen_of b (message s n) h = (value (says s) n, h, refl)
seen_of b short h =
    let all : front b ≡ b = take_all longest_message b (omega (arith, h.0)) in
    let less : ltb (length b) longest_message ≡ true = lt-ltb _ _ h.0 in
    (cut, subst IsProperPrefix (sym all) h.1, rw less refl)
seen_of b (not_a_message at) (inl h) = (value no_message h.0, h.1, ap not_a_message h.2)
seen_of b (not_a_message at) (inr h) = (stopped at, h, refl)
seen_of b is_compressed h = (value compressed h.0, h.1, refl)
seen_of b too_long h = let not : ltb (length b) longest_message ≡ false = le-ltb _ _ h.0 in (cut, h.1, rw not refl)

pub one_answer : (b : List ℕ) (a c : Answer) → IsAnswer b a → IsAnswer b c → a ≡ c
one_answer b a c x y =
    let s = seen_of b a x in
    let t = seen_of b c y in
    s.2 ∙ ap (λ (u : Seen). answer_for u (length b)) (one_seen (front b) s.0 t.0 s.1 t.1) ∙ sym t.2

some_is : (a c : Answer) → ◌≡◌ {A = Option Answer} (Some a) (Some c) → a ≡ c
some_is a c e = cc

pub exactly : (b : List ℕ) (o : Option Answer) → HasAnswer b o → (a : Answer) → (o ≡ None) ⊎ ((o ≡ Some a) ↔ IsAnswer b a)
exactly b None h a = inl refl
exactly b (Some x) h a = inr (λ e. subst (IsAnswer b) (some_is x a e) h, λ y. ap Some (one_answer b x a h y))

-- the beginning of a value, in bytes of either length
pub cut_short : (b : List ℕ) → length b < longest_message → IsProperPrefix (front b) → IsAnswer b short
cut_short b lt h = (lt, subst IsProperPrefix (take_all longest_message b (omega (arith, lt))) h)
