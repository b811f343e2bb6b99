-- The digits below a float, power by power.
use Rattle.std.proofs.Common.{◌≡◌, ℕ, zero, suc, ◌+◌, ◌-◌, ◌*◌, ◌/◌, ◌%◌, ◌^◌, ◌<◌, ◌≤◌, ◌↔◌, inl, inr, refl, sym, ap, ◌∙◌, arith, lit<, lit≤, mul-pos, mul-le-mul_right, div-add-mod', pow-suc, pow-add, pow_mono, pow_pos}
use native.Mathlib.Nat.{pow-le-pow_right, mul_comm, mul_assoc, mul-le-mul, mul-lt-mul_of_pos_right, lt_of_le_of_lt, le_trans, le_of_eq, le-div_iff_mul-le, div-lt_iff_lt-mul, div-div-eq-div-mul, mul-one}
use lib.Ieee.{Format, binary32, binary64, low}
use Rattle.core.proofs.dec2flt.ExactLemmas.{ten_to_pos}
use Rattle.std.proofs.lemmas.Bool.{cases_lt}
use Rattle.fwd_float.specs.Ratio.{IsExact}
use Rattle.fwd_float.specs.Shortest.{scale, numerator, denominator, digits_below}

pub denominator_pos : (f : Format) (q : ℕ) → 0 < denominator f q
denominator_pos f q = mul-pos (pow_pos (low f)) (ten_to_pos q)

pub scale_pos : 0 < scale
unfolding scale
scale_pos = lit< tt

pub denominator_next : (f : Format) (q : ℕ) → denominator f (suc q) ≡ denominator f q * 10
denominator_next f q = ap (λ x. 2 ^ low f * x) (pow-suc 10 q) ∙ sym (mul_assoc (2 ^ low f) (10 ^ q) 10)

-- one place less
pub below_next : (f : Format) (s q : ℕ) → digits_below f s (suc q) ≡ digits_below f s q / 10
unfolding digits_below
below_next f s q = ap (λ d. numerator s / d) (denominator_next f q) ∙ sym (div-div-eq-div-mul (numerator s) (denominator f q) 10)

-- what is left grows by the digit that goes
pub rest_next : (f : Format) (s q : ℕ) → numerator s % denominator f (suc q) ≡ digits_below f s q % 10 * denominator f q + numerator s % denominator f q
unfolding digits_below
rest_next f s q =
    let n = numerator s in
    let d = denominator f q in
    let w = n / d in
    let a = div-add-mod' n d in
    let b : n / denominator f (suc q) * denominator f (suc q) + n % denominator f (suc q) ≡ n = div-add-mod' n (denominator f (suc q)) in
    let c : n / denominator f (suc q) * denominator f (suc q) ≡ w / 10 * (d * 10) = (λ i. below_next f s q i * denominator_next f q i) in
    let e : w ≡ w / 10 * 10 + w % 10 = omega arith in
    omega (arith, ap (λ x. x * d) e, turn (w / 10) d)
  where
    turn : (x d : ℕ) → x * (d * 10) ≡ x * 10 * d
    turn x d = grind arith

-- the bounds of the floats, at the last and the first power
pub small_at_top : (f : Format) (m k : ℕ) → m < 2 ^ 53 → k ≤ low f + 971 → digits_below f (m * 2 ^ k) 800 < 2 ^ 64 - 1
unfolding digits_below scale
small_at_top f m k M K =
    let size : m * 2 ^ k ≤ 2 ^ 53 * 2 ^ (low f + 971) = mul-le-mul (omega arith) (pow_mono K) in
    let split : 2 ^ (low f + 971) ≡ 2 ^ low f * 2 ^ 971 = pow-add 2 (low f) 971 in
    (div-lt_iff_lt-mul (denominator_pos f 800)).1
    (lt_of_le_of_lt (mul-le-mul (le_trans size (le_of_eq (ap (λ x. 2 ^ 53 * x) split))) (native.Mathlib.Nat.le_refl (10 ^ 400))) (grown (2 ^ low f) (pow_pos (low f))))
  where
    regroup : (a b c l : ℕ) → a * (l * b) * c ≡ a * b * c * l
    regroup a b c l = grind arith

    back : (d e l : ℕ) → d * e * l ≡ d * (l * e)
    back d e l = grind arith

    grows : (a b c d e l : ℕ) → 0 < l → a * b * c < d * e → a * (l * b) * c < d * (l * e)
    grows a b c d e l L h = rw (regroup a b c l) (rw (back d e l) at (mul-lt-mul_of_pos_right h L))

    grown : (l : ℕ) → 0 < l → 2 ^ 53 * (l * 2 ^ 971) * 10 ^ 400 < (2 ^ 64 - 1) * (l * 10 ^ 800)
    grown l L = grows (2 ^ 53) (2 ^ 971) (10 ^ 400) (2 ^ 64 - 1) (10 ^ 800) l L (lit< tt)

least : (f : Format) → 2 ^ 60 * denominator f 0 ≤ 10 ^ 400
least f = elim f as (λ g. 2 ^ 60 * (2 ^ low g * 10 ^ 0) ≤ 10 ^ 400) [ binary32 ↦ lit≤ tt | binary64 ↦ lit≤ tt ]

pub large_at_zero : (f : Format) (s : ℕ) → 0 < s → 2 ^ 60 ≤ digits_below f s 0
unfolding digits_below scale
large_at_zero f s S = (le-div_iff_mul-le (denominator_pos f 0)).1 (le_trans (least f) (once (10 ^ 400) s S))
  where
    once : (t s : ℕ) → 0 < s → t ≤ s * t
    once t s S = le_trans (le_of_eq (sym (native.Mathlib.Nat.one-mul t))) (mul-le-mul_right t S)

-- nothing is left at the next power just where the digit that goes is 0, and nothing was left before
pub exact_next : (f : Format) (s q : ℕ) → IsExact f s (suc q) ↔ ((digits_below f s q % 10 ≡ 0) × IsExact f s q)
exact_next f s q = (
  λ e. (no_digit (digits_below f s q % 10) (denominator f q) (numerator s % denominator f q) (denominator_pos f q) (sym (rest_next f s q) ∙ e), omega (arith, rest_next f s q)),
  λ h. rest_next f s q ∙ (λ i. h.0 i * denominator f q + h.1 i) ∙ native.Mathlib.Nat.add-zero (0 * denominator f q) ∙ native.Mathlib.Nat.zero-mul (denominator f q),
)
  where
    no_digit : (l d r : ℕ) → 0 < d → l * d + r ≡ 0 → l ≡ 0
    no_digit zero d r D e = refl
    no_digit (suc l) d r D e = absurd (omega arith)

-- a power of 56 or less leaves more digits than a word has
pub least_power : (f : Format) (s q : ℕ) → 0 < s → digits_below f s q < 2 ^ 64 - 1 → 57 ≤ q
unfolding digits_below scale
least_power f s q S h =
    elim (cases_lt 56 q) [
      | inl l ↦ l
      | inr g ↦ (let many : 2 ^ 64 ≤ numerator s / denominator f q = (le-div_iff_mul-le (denominator_pos f q)).1 (le_trans (mul-le-mul (native.Mathlib.Nat.le_refl (2 ^ 64)) (mul-le-mul (native.Mathlib.Nat.le_refl (2 ^ low f)) (pow-le-pow_right (lit< tt) g))) (le_trans (room f) (once (10 ^ 400) s S))) in absurd (omega arith))
    ]
  where
    room : (f : Format) → 2 ^ 64 * (2 ^ low f * 10 ^ 56) ≤ 10 ^ 400
    room f = elim f as (λ g. 2 ^ 64 * (2 ^ low g * 10 ^ 56) ≤ 10 ^ 400) [ binary32 ↦ lit≤ tt | binary64 ↦ lit≤ tt ]

    once : (t s : ℕ) → 0 < s → t ≤ s * t
    once t s S = le_trans (le_of_eq (sym (native.Mathlib.Nat.one-mul t))) (mul-le-mul_right t S)
