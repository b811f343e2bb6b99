-- Which decimals read as a float, and that a lower power has one where a higher one has.
use Rattle.std.proofs.Common.{◌≡◌, ℕ, suc, ◌+◌, ◌-◌, ◌*◌, ◌/◌, ◌%◌, ◌^◌, ◌<◌, ◌≤◌, Bool, true, false, ◌||◌, T, refl, sym, ap, ◌∙◌, subst, inl, inr, arith, lit<, mul-pos, mul-le-mul_right, pow-suc, pow-add, pow_pos, div-add-mod', mod-lt, eqb, mod-eq_of_lt}
use Rattle.std.proofs.lemmas.Bool.{cases_Bool, le-ltb, eq-eqb, eqb-true, or_cases}
use native.Mathlib.Nat.{le_trans, le_of_eq, le_antisymm, le_of_mul-le-mul_right, mul_comm, mul_assoc, mul_right_comm, mul-le-mul, mul-one, div-mul-le_self, pow-le-pow_right, zero-mul}
use lib.Ieee.{Float, nan, inf, fin, Format, prec, low, hid, ones, top, up, down, size, of_bits, to_bits, nan_bits, is_nan, round, le}
use lib.Ieee.Bits.{of_bits-to_bits, to_bits-of_bits, nan_bits_is, nan_bits_above}
use Rattle.std.proofs.lemmas.Float.{T_from_false}
use lib.Ieee.Exact.{HasValue}
use lib.Ieee.Fits.{round-fits, down_pos}
use lib.Ieee.Nearest.{div_same}
use lib.Ieee.Order.{round_mono}
use lib.Ieee.Positive.{positive, num, den, le→cross, between, value_pos}
use Rattle.fast_float.specs.Rounding.{IsNearestBits}
use Rattle.fast_float.proofs.Patterns.{shape, of_bits_value, infinite}
use Rattle.fast_float.proofs.RoundingLemmas.{nearest_of_near}
use Rattle.fast_float.proofs.Extremes.{nearest_of_huge, nearest_of_zero, round_tens}
use Rattle.fwd_float.specs.Shortest.{units, scale, numerator, denominator, reads_as, digits_below, has_decimal}
use Rattle.fwd_float.proofs.Quotients.{denominator_pos, scale_pos, below_next}
use Rattle.fwd_float.proofs.Sizes.{wide, is_positive, bits_back, is_exact}

-- ---- equal values have equal bits
cross_units : (a b c d l : ℕ) → a * d ≡ c * b → a * l * d ≡ c * l * b
cross_units a b c d l e = mul_right_comm a l d ∙ ap (λ x. x * l) e ∙ mul_right_comm c b l

same_bits : (f : Format) (x y : Float) → T (positive x) → T (positive y) → num x * den y ≡ num y * den x → to_bits f x ≡ to_bits f y
unfolding to_bits
same_bits f nan y p q e = absurd p
same_bits f (inf s) y p q e = absurd p
same_bits f (fin true m a) y p q e = absurd p
same_bits f (fin false m a) nan p q e = absurd q
same_bits f (fin false m a) (inf t) p q e = absurd q
same_bits f (fin false m a) (fin true n b) p q e = absurd q
same_bits f (fin false m a) (fin false n b) p q e =
    let same = div_same (m * up a * 2 ^ low f) (down a) (n * up b * 2 ^ low f) (down b) (down_pos a) (down_pos b) (cross_units (m * up a) (down a) (n * up b) (down b) (2 ^ low f) e) in
    λ i. 0 + (size (same i) - prec f) * hid f + same i / 2 ^ (size (same i) - prec f)

-- the bits up to those of infinity are those of numbers
number_back : (f : Format) (r : ℕ) → r ≤ ones f * hid f → to_bits f (of_bits f r) ≡ r
number_back f r h =
    let s = shape f in
    let turn : hid f * suc (ones f) ≡ ones f * hid f + hid f = turned (hid f) (ones f) in
    let small : r < top f = omega arith in
    let whole : r % top f ≡ r = mod-eq_of_lt small in
    let none : nan_bits f r ≡ false = nan_bits_above f r ∙ rw whole (le-ltb (ones f * hid f) r h) in
    to_bits-of_bits f r (omega arith) (T_from_false (is_nan (of_bits f r)) (sym (nan_bits_is f r) ∙ none))
  where
    turned : (h o : ℕ) → h * suc o ≡ o * h + h
    turned h o = grind arith

module _ (f : Format) (bits : ℕ) (S : 0 < bits) (F : bits < ones f * hid f) where
  abbrev x : Float
  x = of_bits f bits

  pub to_float : (q d : ℕ) → reads_as f bits q d ≡ true → x ≡ round f false (d * 10 ^ q) scale
  unfolding reads_as
  to_float q d e = ap (of_bits f) (sym (eqb-true _ _ e)) ∙ of_bits-to_bits f _ (round-fits f false (d * 10 ^ q) scale)

  pub of_float : (q d : ℕ) → x ≡ round f false (d * 10 ^ q) scale → reads_as f bits q d ≡ true
  unfolding reads_as
  of_float q d e = eq-eqb _ _ (ap (to_bits f) (sym e) ∙ bits_back f bits S F)

  -- what lies between two numbers that read as the float does so too
  pub amid : (a b c d m n : ℕ) → 0 < b → 0 < d → 0 < n → x ≡ round f false a b → x ≡ round f false c d → a * n ≤ m * b → m * d ≤ c * n
      → to_bits f (round f false m n) ≡ bits
  amid a b c d m n B D N p q lo hi =
      let y = round f false m n in
      let P = is_positive f bits S F in
      let low_side : T (le x y) = subst (λ z. T (le z y)) (sym p) (round_mono f a b m n B N lo) in
      let high_side : T (le y x) = subst (λ z. T (le y z)) (sym q) (round_mono f m n c d N D hi) in
      let Q = between x y x P P low_side high_side in
      sym (same_bits f x y P Q (le_antisymm (le→cross x y P Q low_side) (le→cross y x Q P high_side))) ∙ bits_back f bits S F

  pub below_amid : (a b q d : ℕ) → 0 < b → x ≡ round f false a b → a * scale ≤ d * 10 ^ q * b → d * denominator f q ≤ numerator (units f bits) → reads_as f bits q d ≡ true
  unfolding reads_as
  below_amid a b q d B p lo hi =
      eq-eqb _ _ (amid a b (units f bits) (2 ^ low f) (d * 10 ^ q) scale B (pow_pos (low f)) scale_pos p (is_exact f bits S F) lo (le_trans (le_of_eq (turn d (10 ^ q) (2 ^ low f))) hi))
    where
      turn : (d t l : ℕ) → d * t * l ≡ d * (l * t)
      turn d t l = grind arith

  pub above_amid : (c b q d : ℕ) → 0 < b → x ≡ round f false c b → numerator (units f bits) ≤ d * denominator f q → d * 10 ^ q * b ≤ c * scale → reads_as f bits q d ≡ true
  unfolding reads_as
  above_amid c b q d B p lo hi =
      eq-eqb _ _ (amid (units f bits) (2 ^ low f) c b (d * 10 ^ q) scale (pow_pos (low f)) B scale_pos (is_exact f bits S F) p (le_trans lo (le_of_eq (turn d (10 ^ q) (2 ^ low f)))) hi)
    where
      turn : (d t l : ℕ) → d * (l * t) ≡ d * t * l
      turn d t l = grind arith

  pub decimal_amid : (a c q d : ℕ) → x ≡ round f false a scale → x ≡ round f false c scale → a * scale ≤ d * 10 ^ q * scale → d * 10 ^ q * scale ≤ c * scale → reads_as f bits q d ≡ true
  unfolding reads_as
  decimal_amid a c q d p r lo hi = eq-eqb _ _ (amid a scale c scale (d * 10 ^ q) scale scale_pos scale_pos scale_pos p r lo hi)

  -- ---- the digits below and above the float
  pub below_le : (q : ℕ) → digits_below f (units f bits) q * denominator f q ≤ numerator (units f bits)
  unfolding digits_below
  below_le q = div-mul-le_self (numerator (units f bits)) (denominator f q)

  pub above_gt : (q : ℕ) → numerator (units f bits) < (digits_below f (units f bits) q + 1) * denominator f q
  unfolding digits_below
  above_gt q = omega (arith, div-add-mod' (numerator (units f bits)) (denominator f q), mod-lt (numerator (units f bits)) (denominator_pos f q))

  tens : (e d q : ℕ) → e * 10 ≤ d → e * 10 ^ suc q * scale ≤ d * 10 ^ q * scale
  tens e d q h = mul-le-mul_right scale (le_trans (le_of_eq (ap (λ z. e * z) (pow-suc 10 q) ∙ turn e (10 ^ q))) (mul-le-mul_right (10 ^ q) h))
    where
      turn : (e t : ℕ) → e * (t * 10) ≡ e * 10 * t
      turn e t = grind arith

  tens_up : (e d q : ℕ) → d ≤ e * 10 → d * 10 ^ q * scale ≤ e * 10 ^ suc q * scale
  tens_up e d q h = mul-le-mul_right scale (le_trans (mul-le-mul_right (10 ^ q) h) (le_of_eq (turn e (10 ^ q) ∙ ap (λ z. e * z) (sym (pow-suc 10 q)))))
    where
      turn : (e t : ℕ) → e * 10 * t ≡ e * (t * 10)
      turn e t = grind arith

  pub downward : (q : ℕ) → has_decimal f bits (suc q) ≡ true → has_decimal f bits q ≡ true
  unfolding has_decimal
  downward q h =
      let d = digits_below f (units f bits) q in
      let e = digits_below f (units f bits) (suc q) in
      let next : e ≡ d / 10 = below_next f (units f bits) q in
      elim (or_cases _ _ h) [
        | inl r ↦
            let lower : reads_as f bits q d ≡ true = below_amid (e * 10 ^ suc q) scale q d scale_pos (to_float (suc q) e r) (tens e d q (omega arith)) (below_le q) in
            rw lower refl
        | inr r ↦
            let upper : reads_as f bits q (d + 1) ≡ true =
            above_amid ((e + 1) * 10 ^ suc q) scale q (d + 1) scale_pos (to_float (suc q) (e + 1) r) (native.Mathlib.Nat.le_of_lt (above_gt q)) (tens_up (e + 1) (d + 1) q (omega arith)) in
            or_right _ _ upper
      ]
    where
      or_right : (a b : Bool) → b ≡ true → (a || b) ≡ true
      or_right true b e = refl
      or_right false b e = e

  -- with enough digits, those below the float read as it
  pub enough : (q : ℕ) → 2 ^ (prec f + 2) ≤ digits_below f (units f bits) q → reads_as f bits q (digits_below f (units f bits) q) ≡ true
  enough q many =
      let w = wide f bits S F in
      let m = w.0 in
      let k = w.1 in
      let is = w.2 in
      let d = digits_below f (units f bits) q in
      let D = denominator f q in
      let u = scale * 2 ^ k in
      let whole : numerator (units f bits) ≡ m * u = ap (λ z. z * scale) is.size ∙ turn m (2 ^ k) scale in
      let n : d * 10 ^ q * 2 ^ low f ≡ d * D = turn d (10 ^ q) (2 ^ low f) in
      let from : d * D ≤ m * u = le_trans (below_le q) (le_of_eq whole) in
      let below : m * u < (d + 1) * D = subst (λ z. z < (d + 1) * D) whole (above_gt q) in
      let fine : 4 * D ≤ u = finer (prec f) m u d D is.most many from in
      let U : 0 < u = mul-pos scale_pos (pow_pos k) in
      let near =
      nearest_of_near f (d * 10 ^ q) scale m k scale_pos is.most (λ p. omega (arith, is.least p)) (λ p. omega (arith, mul-le-mul_right u (is.least p))) (omega arith) (omega arith) in
      of_float q d (ap (of_bits f) (sym is.same) ∙ near.0)
    where
      turn : (a b c : ℕ) → a * b * c ≡ a * (c * b)
      turn a b c = grind arith

      turned : (t D : ℕ) → 4 * t * D ≡ 4 * D * t
      turned t D = grind arith

      finer : (p m u d D : ℕ) → m ≤ 2 ^ p → 2 ^ (p + 2) ≤ d → d * D ≤ m * u → 4 * D ≤ u
      finer p m u d D M h from =
          let four : 2 ^ (p + 2) ≡ 4 * 2 ^ p = pow-add 2 p 2 ∙ mul_comm (2 ^ p) 4 in
          let a : 4 * 2 ^ p * D ≤ d * D = mul-le-mul_right D (le_trans (le_of_eq (sym four)) h) in
          let b : m * u ≤ 2 ^ p * u = mul-le-mul_right u M in
          le_of_mul-le-mul_right {k = 2 ^ p} (omega (arith, turned (2 ^ p) D, mul_comm (2 ^ p) u)) (pow_pos p)

  not_zero : x ≡ of_bits f 0 → ⊥
  not_zero e =
      let s = shape f in
      let none : 0 * hid f + 0 ≡ 0 = omega (arith, zero-mul (hid f)) in
      let value = subst (λ b. HasValue (of_bits f b) false 0 (2 ^ low f)) none (of_bits_value f 0 0 (omega arith) (omega arith)) in
      let above = value_pos (of_bits f 0) 0 (2 ^ low f) (subst (λ z. T (positive z)) e (is_positive f bits S F)) (pow_pos (low f)) value in
      absurd (omega arith)

  not_infinite : x ≡ inf false → ⊥
  not_infinite e = subst (λ z. T (positive z)) e (is_positive f bits S F)

  huge : (q d : ℕ) → 709 ≤ q → 0 < d → 10 ^ 309 * scale ≤ d * 10 ^ q
  unfolding scale
  huge q d h D =
      let far : 10 ^ 709 ≤ 10 ^ q = pow-le-pow_right (lit< tt) h in
      le_trans far (le_trans (le_of_eq (sym (native.Mathlib.Nat.one-mul (10 ^ q)))) (mul-le-mul_right (10 ^ q) D))

  -- no decimal with a power of 709 or more does
  pub none_huge : (q d : ℕ) → 709 ≤ q → reads_as f bits q d ≡ false
  none_huge q d h =
      elim (cases_Bool (reads_as f bits q d)) [
        | inr e ↦ e
        | inl e ↦ elim (native.Mathlib.Nat.eq-zero-or-pos d) [
          | inl z ↦ absurd (not_zero (to_float q d e ∙ sym (nearest_of_zero f (d * 10 ^ q) scale scale_pos (ap (λ y. y * 10 ^ q) z ∙ zero-mul (10 ^ q))).0))
          | inr p ↦ absurd (not_infinite (to_float q d e ∙ sym (nearest_of_huge f (d * 10 ^ q) scale scale_pos (huge q d h p)).0 ∙ infinite f))
        ]
      ]

  pub has_none : (q : ℕ) → 709 ≤ q → has_decimal f bits q ≡ false
  unfolding has_decimal
  has_none q h = let d = digits_below f (units f bits) q in rw (none_huge q d h, none_huge q (d + 1) h) refl

  pub none_zero : (q : ℕ) → reads_as f bits q 0 ≡ false
  none_zero q =
      elim (cases_Bool (reads_as f bits q 0)) [
        | inr e ↦ e
        | inl e ↦ absurd (not_zero (to_float q 0 e ∙ sym (nearest_of_zero f (0 * 10 ^ q) scale scale_pos (zero-mul (10 ^ q))).0))
      ]

  -- what the parser says of digits * 10 ^ (index - 342)
  pub reads_is : (q d r : ℕ) → 58 ≤ q → IsNearestBits f (d * 10 ^ (q - 58 - 342)) (10 ^ (342 - (q - 58))) r → eqb r bits ≡ reads_as f bits q d
  unfolding reads_as scale
  reads_is q d r h near =
      let same = round_tens f d (q - 58 - 342) (342 - (q - 58)) q 400 (omega arith) in
      let back : r ≡ to_bits f (round f false (d * 10 ^ q) (10 ^ 400)) = sym (number_back f r near.1) ∙ ap (to_bits f) (near.0 ∙ same) in
      ap (λ z. eqb z bits) back
