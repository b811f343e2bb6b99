-- What reading from left to right computes for known bytes.
use Rattle.std.proofs.Common.{◌≡◌, ℕ, ◌+◌, ◌-◌, true, false, List, ◌∷◌, length, take, drop, Ok, Err, refl, sym, ap, subst, ◌∙◌, arith, inl, inr}
use Rattle.std.proofs.lemmas.List.{take_at, take-append-drop, length-append}
use Rattle.fwd_value.specs.Val.{Val}
use Rattle.fwd_msgpack.specs.declared.errors.DecodeErr.TheVariants as errors
use Rattle.fwd_msgpack.specs.declared.fault.FormatErr.TheVariants.{Short, Unused, TooDeep}
use Rattle.fwd_msgpack.specs.Decoder.{Read, value_at}
use Rattle.fwd_msgpack.specs.DecodeAnswers.{EncodesPrefix, IsProperPrefix, FailsAtForm, IsUnused, IsListOrMap}
use Rattle.fwd_msgpack.proofs.Grammar.{reads}
use Rattle.fwd_msgpack.proofs.Exclusive.{prefix_not_value, prefix_not_stop, one_stop, unused_not_deep}
use Rattle.fwd_msgpack.proofs.AnswerMeanings.{short_exactly, unused_exactly, deep_exactly}

-- a value
pub front_read : (f : List ℕ) (v : Val) (n : ℕ) → EncodesPrefix v n f → value_at 64 f ≡ Ok (v, drop n f)
front_read f v n h = ap (value_at 64) (sym (take-append-drop n f)) ∙ (reads 64).whole v (take n f) (drop n f) (h.1, h.2)

pub read_front : (f : List ℕ) (v : Val) (rest : List ℕ) → value_at 64 f ≡ Ok (v, rest) → (n : ℕ) × EncodesPrefix v n f
read_front f v rest e =
    let h = (reads 64).sound f v rest e in
    let front : take (length h.0) f ≡ h.0 = ap (take (length h.0)) h.1 ∙ take_at h.0 rest (length h.0) refl in
    (length h.0, (omega (arith, ap length h.1, length-append h.0 rest), rw front h.2.0, h.2.1))

pub read_at : (f : List ℕ) (v : Val) (rest : List ℕ) → value_at 64 f ≡ Ok (v, rest) → EncodesPrefix v (length f - length rest) f
read_at f v rest e =
    let h = (reads 64).sound f v rest e in
    let size : length h.0 ≡ length f - length rest = omega (arith, ap length h.1, length-append h.0 rest) in
    let front : take (length h.0) f ≡ h.0 = ap (take (length h.0)) h.1 ∙ take_at h.0 rest (length h.0) refl in
    subst (λ (n : ℕ). EncodesPrefix v n f) size (omega (arith, ap length h.1, length-append h.0 rest), rw front h.2.0, h.2.1)

-- a byte that stops the reading, and its position
pub unused_place : (f : List ℕ) (left : ℕ) → value_at 64 f ≡ Err (Unused left) → (at : ℕ) × (at + left ≡ length f) × FailsAtForm IsUnused at f
unused_place f left e =
    let t = (reads 64).stops false f left e in
    let place : length t.front + left ≡ length f = omega (arith, ap length t.parts, length-append t.front (t.byte ∷ t.rest), t.left_is) in
    (length t.front, place, elim (unused_exactly f (Err (errors.Unused (length t.front))) (left, e, place) (length t.front)) [ inl m ↦ absurd m | inr k ↦ k.0 refl ])

pub deep_place : (f : List ℕ) (left : ℕ) → value_at 64 f ≡ Err (TooDeep left) → (at : ℕ) × (at + left ≡ length f) × FailsAtForm IsListOrMap at f
deep_place f left e =
    let t = (reads 64).stops true f left e in
    let place : length t.front + left ≡ length f = omega (arith, ap length t.parts, length-append t.front (t.byte ∷ t.rest), t.left_is) in
    (length t.front, place, elim (deep_exactly f (Err (errors.TooDeep (length t.front))) (left, e, place) (length t.front)) [ inl m ↦ absurd m | inr k ↦ k.0 refl ])

-- the beginning of a value
pub read_short : (f : List ℕ) → value_at 64 f ≡ Err Short → IsProperPrefix f
read_short f e = elim (short_exactly f (Err errors.Short) e) [ inl m ↦ absurd m | inr k ↦ k.0 tt ]

short_by : (f : List ℕ) → IsProperPrefix f → (r : Read Val) → value_at 64 f ≡ r → value_at 64 f ≡ Err Short
short_by f p (Ok x) e = let h = read_front f x.0 x.1 e in absurd (prefix_not_value f x.0 h.0 p h.1)
short_by f p (Err Short) e = e
short_by f p (Err (Unused left)) e = let u = unused_place f left e in absurd (prefix_not_stop IsUnused f u.0 p u.2)
short_by f p (Err (TooDeep left)) e = let u = deep_place f left e in absurd (prefix_not_stop IsListOrMap f u.0 p u.2)

pub short_read : (f : List ℕ) → IsProperPrefix f → value_at 64 f ≡ Err Short
short_read f p = short_by f p (value_at 64 f) refl

unused_by : (f : List ℕ) (at : ℕ) → FailsAtForm IsUnused at f → (r : Read Val) → value_at 64 f ≡ r → (left : ℕ) × (value_at 64 f ≡ Err (Unused left)) × (at + left ≡ length f)
unused_by f at s (Ok x) e = let h = read_front f x.0 x.1 e in absurd (s.0 x.0 h.0 h.1)
unused_by f at s (Err Short) e = absurd (prefix_not_stop IsUnused f at (read_short f e) s)
unused_by f at s (Err (Unused left)) e = let u = unused_place f left e in (left, e, omega (arith, u.1, one_stop f at u.0 s.1 u.2.1))
unused_by f at s (Err (TooDeep left)) e = let u = deep_place f left e in absurd (unused_not_deep f at u.0 s u.2)

pub unused_read : (f : List ℕ) (at : ℕ) → FailsAtForm IsUnused at f → (left : ℕ) × (value_at 64 f ≡ Err (Unused left)) × (at + left ≡ length f)
unused_read f at s = unused_by f at s (value_at 64 f) refl

deep_by : (f : List ℕ) (at : ℕ) → FailsAtForm IsListOrMap at f → (r : Read Val) → value_at 64 f ≡ r → (left : ℕ) × (value_at 64 f ≡ Err (TooDeep left)) × (at + left ≡ length f)
deep_by f at s (Ok x) e = let h = read_front f x.0 x.1 e in absurd (s.0 x.0 h.0 h.1)
deep_by f at s (Err Short) e = absurd (prefix_not_stop IsListOrMap f at (read_short f e) s)
deep_by f at s (Err (Unused left)) e = let u = unused_place f left e in absurd (unused_not_deep f u.0 at u.2 s)
deep_by f at s (Err (TooDeep left)) e = let u = deep_place f left e in (left, e, omega (arith, u.1, one_stop f at u.0 s.1 u.2.1))

pub deep_read : (f : List ℕ) (at : ℕ) → FailsAtForm IsListOrMap at f → (left : ℕ) × (value_at 64 f ≡ Err (TooDeep left)) × (at + left ≡ length f)
deep_read f at s = deep_by f at s (value_at 64 f) refl
