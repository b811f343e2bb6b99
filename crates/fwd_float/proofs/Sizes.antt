-- What a float's bits say of its size.
use Rattle.std.proofs.Common.{◌≡◌, ℕ, zero, suc, ◌+◌, ◌-◌, ◌*◌, ◌/◌, ◌%◌, ◌^◌, ◌<◌, ◌≤◌, false, not, T, refl, sym, ap, ◌∙◌, subst, inl, inr, arith, mul-pos, pow-suc, pow_pos, div-add-mod', mod-lt, div-lt_iff_lt-mul, le-div_iff_mul-le, eq-zero-or-pos, add-one}
use Rattle.std.proofs.lemmas.Bool.{cases_lt, lt-ltb, le-ltb}
use native.Mathlib.Nat.{mul-one, mul_assoc, mul_comm}
use lib.Ieee.{Float, nan, inf, fin, Format, prec, low, hid, ones, top, is_nan, of_bits, to_bits, round}
use lib.Ieee.Bits.{to_bits-of_bits}
use lib.Ieee.Positive.{positive, positive_of_value}
use Rattle.fast_float.specs.Rounding.{scaled_bits}
use Rattle.fast_float.proofs.Patterns.{shape, of_bits_value, field_units}
use Rattle.fast_float.proofs.RoundingLemmas.{nearest_of_near}
use Rattle.fwd_float.specs.Shortest.{units}

-- The bits as a significand and an exponent. A power of two has twice the significand, so that the next
-- float below is as far as the one above.
pub record IsWide (f : Format) (bits m k : ℕ) : Type 0 where
  pub most : m ≤ 2 ^ prec f
  pub least : 0 < k → hid f < m
  pub same : scaled_bits f m k ≡ bits
  pub size : units f bits ≡ m * 2 ^ k
  pub some : 0 < m

wide_low : (f : Format) (bits : ℕ) → 0 < bits → bits < hid f → IsWide f bits bits 0
wide_low f bits S l =
    let s = shape f in
    record {
      most = omega arith;
      least = λ z. absurd (omega arith);
      same = omega (arith, twice_field f);
      size = rw (lt-ltb bits (hid f) l) (sym (mul-one bits));
      some = S;
    }
  where
    twice_field : (f : Format) → 2 * hid f ≤ ones f * hid f
    twice_field f = let s = shape f in native.Mathlib.Nat.mul-le-mul_right (hid f) (omega arith)

wide_high : (f : Format) (bits : ℕ) → bits < ones f * hid f → hid f ≤ bits → (m : ℕ) × (k : ℕ) × IsWide f bits m k
wide_high f bits F h =
    let s = shape f in
    let H : 0 < hid f = omega arith in
    let x = bits / hid f in
    let t = bits % hid f in
    let parts = div-add-mod' bits (hid f) in
    let small = mod-lt bits H in
    let reach : 1 ≤ x = (le-div_iff_mul-le H).1 (omega arith) in
    let size : units f bits ≡ (hid f + t) * 2 ^ (x - 1) = rw (le-ltb bits (hid f) h) refl in
    let back : x - 1 + 1 ≡ x = omega arith in
    let joined : (x - 1) * hid f + hid f ≡ x * hid f = omega (arith, ap (λ y. y * hid f) back) in
    elim (eq-zero-or-pos t) [
      | inr p ↦ (hid f + t, x - 1, record { most = omega arith; least = λ _. omega arith; same = omega arith; size = size; some = omega arith })
      | inl z ↦ elim (eq-zero-or-pos (x - 1)) [
        | inl o ↦ (hid f + t, x - 1, record { most = omega arith; least = λ g. absurd (omega arith); same = omega arith; size = size; some = omega arith })
        | inr p ↦
            let again : x - 2 + 1 ≡ x - 1 = omega arith in
            let twice : (x - 2) * hid f + hid f ≡ (x - 1) * hid f = omega (arith, ap (λ y. y * hid f) again) in
            let power : 2 ^ (x - 1) ≡ 2 ^ (x - 2) * 2 = ap (λ y. 2 ^ y) (sym again) ∙ rw add-one (pow-suc 2 (x - 2)) in
            let alone : hid f + t ≡ hid f = omega arith in (
              hid f + hid f,
              x - 2,
              record {
                most = omega arith;
                least = λ _. omega arith;
                same = omega arith;
                size = size ∙ (λ i. alone i * power i) ∙ doubled (hid f) (2 ^ (x - 2));
                some = omega arith;
              },
            )
      ]
    ]
  where
    doubled : (h p : ℕ) → h * (p * 2) ≡ (h + h) * p
    doubled h p = grind arith

pub wide : (f : Format) (bits : ℕ) → 0 < bits → bits < ones f * hid f → (m : ℕ) × (k : ℕ) × IsWide f bits m k
wide f bits S F = elim (cases_lt bits (hid f)) [ inl l ↦ (bits, 0, wide_low f bits S l) | inr h ↦ wide_high f bits F h ]

number : (x : Float) → T (positive x) → T (not (is_nan x))
unfolding is_nan
number nan p = absurd p
number (inf s) p = tt
number (fin s m e) p = tt

some_units : (f : Format) (x t : ℕ) → 0 < x * hid f + t → t < hid f → 0 < field_units f x t
some_units f zero t h l = let p : 0 < t = omega (arith, native.Mathlib.Nat.zero-mul (hid f)) in mul-pos p (pow_pos 0)
some_units f (suc j) t h l = mul-pos (omega arith) (pow_pos j)

module _ (f : Format) (bits : ℕ) (S : 0 < bits) (F : bits < ones f * hid f) where
  pub is_positive : T (positive (of_bits f bits))
  is_positive =
      let s = shape f in
      let H : 0 < hid f = omega arith in
      let small = mod-lt bits H in
      let parts = div-add-mod' bits (hid f) in
      subst (λ b. T (positive (of_bits f b))) parts
      (positive_of_value _ _ _ (of_bits_value f (bits / hid f) (bits % hid f) ((div-lt_iff_lt-mul H).1 F) small) (some_units f (bits / hid f) (bits % hid f) (omega arith) small))

  below_top : bits < 2 * top f
  below_top = omega (arith, turn (hid f) (ones f))
    where
      turn : (h o : ℕ) → h * suc o ≡ o * h + h
      turn h o = grind arith

  pub bits_back : to_bits f (of_bits f bits) ≡ bits
  bits_back = to_bits-of_bits f bits below_top (number _ is_positive)

  pub is_exact : of_bits f bits ≡ round f false (units f bits) (2 ^ low f)
  is_exact =
      let w = wide f bits S F in
      let m = w.0 in
      let k = w.1 in
      let is = w.2 in
      let n = m * 2 ^ k * 2 ^ low f in
      let u = 2 ^ low f * 2 ^ k in
      let U = mul-pos (pow_pos (low f)) (pow_pos k) in
      let e : m * u ≡ n = turn m (2 ^ low f) (2 ^ k) in
      let near = nearest_of_near f (m * 2 ^ k) (2 ^ low f) m k (pow_pos (low f)) is.most (λ p. omega (arith, is.least p)) (λ p. at_least (hid f) m u n (is.least p) e) (omega arith) (omega arith) in
      ap (of_bits f) (sym is.same) ∙ near.0 ∙ ap (λ n. round f false n (2 ^ low f)) (sym is.size)
    where
      turn : (m l p : ℕ) → m * (l * p) ≡ m * p * l
      turn m l p = grind arith

      at_least : (h m u n : ℕ) → h < m → m * u ≡ n → h * u ≤ n
      at_least h m u n l e = subst (λ x. h * u ≤ x) e (native.Mathlib.Nat.mul-le-mul_right u (native.Mathlib.Nat.le_of_lt l))

pub some_size : (f : Format) (bits : ℕ) → 0 < bits → bits < ones f * hid f → 0 < units f bits
some_size f bits S F = let w = wide f bits S F in subst (λ u. 0 < u) (sym w.2.size) (mul-pos w.2.some (pow_pos w.1))
