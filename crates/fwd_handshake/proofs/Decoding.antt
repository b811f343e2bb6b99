-- The judgement of a stream is that of the value that the decoder finds at its start.
use Rattle.std.proofs.Common.{◌≡◌, ◌⊎◌, ◌↔◌, inl, inr, ℕ, ◌+◌, ◌-◌, true, false, List, length, take, drop, Option, Result, Ok, Err, IfOk, refl, sym, ap, subst, ◌∙◌, arith}
use Rattle.std.specs.Prelude.{IsErr}
use Rattle.std.proofs.lemmas.List.{take_at, take-append-drop, length-append, length-drop}
use Rattle.fwd_base.specs.declared.memory.Memory.{Memory}
use Rattle.fwd_value.specs.Val.{Val}
use Rattle.fwd_value.specs.View.{val_of}
use Rattle.fwd_value.specs.declared.value.Value.{Value}
use Rattle.fwd_msgpack.specs.declared.errors.DecodeErr.{DecodeErr}
use Rattle.fwd_msgpack.specs.declared.errors.DecodeErr.TheVariants as errors
use Rattle.fwd_msgpack.specs.declared.fault.FormatErr.TheVariants.{Short, Unused, TooDeep}
use Rattle.fwd_msgpack.specs.Decoder.{Read, value_at}
use Rattle.fwd_msgpack.specs.DecodeAnswers.{EncodesPrefix, IsProperPrefix, ReturnsValue, IsMemory, IsShort}
use Rattle.fwd_msgpack.proofs.AnswerMeanings.{stop_fits, short_exactly}
use Rattle.fwd_msgpack.proofs.Exclusive.{prefix_not_value}
use Rattle.fwd_msgpack.proofs.Grammar.{reads}
use Rattle.fwd_handshake.specs.declared.received.Received.{Received}
use Rattle.fwd_handshake.specs.declared.received.Received.TheVariants.{Wrong}
use Rattle.fwd_handshake.specs.Judgement.{short_received, content_received, received_by, received}
use Rattle.fwd_handshake.specs.Undecodable.{ReceivedWithout}

-- a value at the start is read
pub value_read : (b : List ℕ) (v : Val) (n : ℕ) → EncodesPrefix v n b → value_at 64 b ≡ Ok (v, drop n b)
value_read b v n h = ap (value_at 64) (sym (take-append-drop n b)) ∙ (reads 64).whole v (take n b) (drop n b) (h.1, h.2)

-- what is read is a value at the start
pub read_value : (b : List ℕ) (v : Val) (rest : List ℕ) → value_at 64 b ≡ Ok (v, rest) → EncodesPrefix v (length b - length rest) b
read_value b v rest e =
    let h = (reads 64).sound b v rest e in
    let size : length h.0 ≡ length b - length rest = omega (arith, ap length h.1, length-append h.0 rest) in
    let front : take (length h.0) b ≡ h.0 = ap (take (length h.0)) h.1 ∙ take_at h.0 rest (length h.0) refl in
    subst (λ (n : ℕ). EncodesPrefix v n b) size (omega (arith, ap length h.1, length-append h.0 rest), rw front h.2.0, h.2.1)

-- bytes that end inside a value are a proper prefix of one
pub read_prefix : (b : List ℕ) → value_at 64 b ≡ Err Short → IsProperPrefix b
read_prefix b e = elim (short_exactly b (Err errors.Short) e) [ inl m ↦ absurd m | inr k ↦ k.0 tt ]

prefix_by : (b : List ℕ) → IsProperPrefix b → (r : Read Val) → value_at 64 b ≡ r → value_at 64 b ≡ Err Short
prefix_by b p (Ok x) e = absurd (prefix_not_value b x.0 (length b - length x.1) p (read_value b x.0 x.1 e))
prefix_by b p (Err Short) e = e
prefix_by b p (Err (Unused left)) e =
    let at : (length b - left) + left ≡ length b = omega (arith, stop_fits false b left e) in
    elim (short_exactly b (Err (errors.Unused (length b - left))) (left, e, at)) [ inl m ↦ absurd m | inr k ↦ absurd (k.1 p) ]
prefix_by b p (Err (TooDeep left)) e =
    let at : (length b - left) + left ≡ length b = omega (arith, stop_fits true b left e) in
    elim (short_exactly b (Err (errors.TooDeep (length b - left))) (left, e, at)) [ inl m ↦ absurd m | inr k ↦ absurd (k.1 p) ]

pub prefix_read : (b : List ℕ) → IsProperPrefix b → value_at 64 b ≡ Err Short
prefix_read b p = prefix_by b p (value_at 64 b) refl

-- ---- the judgement

pub received_value : (content : Val → Option (List ℕ)) (b : List ℕ) (v : Val) (n : ℕ) → EncodesPrefix v n b → received content b ≡ content_received n (content v)
unfolding received
received_value content b v n h =
    let size : length b - length (drop n b) ≡ n = omega (arith, length-drop n b, h.0) in
    ap (received_by content (length b)) (value_read b v n h) ∙ ap (λ (m : ℕ). content_received m (content v)) size

pub received_prefix : (content : Val → Option (List ℕ)) (b : List ℕ) → IsProperPrefix b → received content b ≡ short_received (length b)
unfolding received
received_prefix content b p = ap (received_by content (length b)) (prefix_read b p)

neither_by : (content : Val → Option (List ℕ)) (b : List ℕ) → ((v : Val) (n : ℕ) → EncodesPrefix v n b → ⊥) → (IsProperPrefix b → ⊥) → (r : Read Val) → value_at 64 b ≡ r → received_by content (length b) r ≡ Wrong
neither_by content b no_value no_prefix (Ok x) e = absurd (no_value x.0 (length b - length x.1) (read_value b x.0 x.1 e))
neither_by content b no_value no_prefix (Err Short) e = absurd (no_prefix (read_prefix b e))
neither_by content b no_value no_prefix (Err (Unused left)) e = refl
neither_by content b no_value no_prefix (Err (TooDeep left)) e = refl

-- a stream that begins neither with a value nor inside one
received_neither : (content : Val → Option (List ℕ)) (b : List ℕ) → ((v : Val) (n : ℕ) → EncodesPrefix v n b → ⊥) → (IsProperPrefix b → ⊥) → received content b ≡ Wrong
unfolding received
received_neither content b no_value no_prefix = neither_by content b no_value no_prefix (value_at 64 b) refl

-- ---- what the decoder answers

pub value_found : (x : Value × ℕ) (b : List ℕ) → ((v : Val) (n : ℕ) → IsMemory (Ok x) ⊎ (ReturnsValue (Ok x) v n ↔ EncodesPrefix v n b)) → EncodesPrefix (val_of x.0) x.1 b
value_found x b h = elim (h (val_of x.0) x.1) [ inl m ↦ absurd m | inr k ↦ k.0 (refl, refl) ]

-- the judgement by the value that the decoder found, and by the content that was found in it
pub decoded_received : (content : Val → Option (List ℕ)) (x : Value × ℕ) (b : List ℕ) (o : Option (List ℕ)) (answer : Received)
    → ((v : Val) (n : ℕ) → IsMemory (Ok x) ⊎ (ReturnsValue (Ok x) v n ↔ EncodesPrefix v n b))
    → o ≡ content (val_of x.0) → answer ≡ content_received x.1 o → answer ≡ received content b
decoded_received content x b o answer h is e =
    e ∙ ap (content_received x.1) is ∙ sym (received_value content b (val_of x.0) x.1 (value_found x b h))

is_received : (j k : Received) (r : Result Received Memory) → r ≡ Ok j → j ≡ k → IfOk r (λ x. x ≡ k)
is_received j k r is e = subst (λ (x : Result Received Memory). IfOk x (λ y. y ≡ k)) (sym is) e

none_received : (k : Received) (r : Result Received Memory) → IsErr r → IfOk r (λ x. x ≡ k)
none_received k (Ok j) h = absurd cc
none_received k (Err e) h = tt

-- the judgement where the decoder found no value
pub without_received : (content : Val → Option (List ℕ)) (e : DecodeErr) (b : List ℕ) (r : Result Received Memory)
    → ((v : Val) (n : ℕ) → IsMemory (Err e) ⊎ (ReturnsValue (Err e) v n ↔ EncodesPrefix v n b)) → IsMemory (Err e) ⊎ (IsShort (Err e) ↔ IsProperPrefix b)
    → ReceivedWithout e (length b) r → IfOk r (λ x. x ≡ received content b)
without_received content errors.Short b r value short is =
    let prefix : IsProperPrefix b = elim short [ inl m ↦ absurd m | inr k ↦ k.0 tt ] in
    is_received (short_received (length b)) (received content b) r is (sym (received_prefix content b prefix))
without_received content (errors.Unused at) b r value short is =
    is_received Wrong (received content b) r is (sym (received_neither content b
    (λ v n h. elim (value v n) [ inl m ↦ m | inr k ↦ k.1 h ])
    (λ p. elim short [ inl m ↦ m | inr k ↦ k.1 p ])))
without_received content (errors.TooDeep at) b r value short is =
    is_received Wrong (received content b) r is (sym (received_neither content b
    (λ v n h. elim (value v n) [ inl m ↦ m | inr k ↦ k.1 h ])
    (λ p. elim short [ inl m ↦ m | inr k ↦ k.1 p ])))
without_received content errors.Memory b r value short is = none_received (received content b) r is
