-- The decimal that is written has the fewest digits of those that read as the float, and is the nearest.
use Rattle.std.proofs.Common.{◌≡◌, ℕ, zero, suc, ◌+◌, ◌-◌, ◌*◌, ◌/◌, ◌%◌, ◌^◌, ◌<◌, ◌≤◌, ◌⊎◌, true, false, refl, sym, ap, ◌∙◌, inl, inr, arith, true≢false, lit<, mul-le-mul_right, pow-suc, add-zero, div-add-mod'}
use Rattle.std.proofs.lemmas.Bool.{cases_Bool, cases_lt, lt-ltb, le-ltb}
use native.Mathlib.Nat.{le_trans, le_of_eq, le_of_lt, mul-le-mul, pow-le-pow_right}
use lib.Ieee.{Format, hid, ones}
use Rattle.fwd_float.specs.Laws.{gap, distance}
use Rattle.fwd_float.specs.Shortest.{units, scale, numerator, denominator, reads_as, digits_below, digits_nearest, digits_at, has_decimal, shortest_power, shortest_digits, nearest_whole}
use Rattle.fwd_float.proofs.Quotients.{scale_pos}
use Rattle.fwd_float.proofs.Reading.{to_float, decimal_amid, below_amid, above_amid, below_le, above_gt, none_zero}
use Rattle.fwd_float.proofs.Search.{found, found_below, found_above, none_above, none_next, chosen_reads}

-- s is the neighbour b or b + 1 of n / u that is as near as the other, or on the side of d
abbrev IsSide : ℕ → ℕ → ℕ → ℕ → ℕ → Type 0
IsSide n u b s d = ((s ≡ b) × ((2 * n ≤ 2 * (b * u) + u) ⊎ (d ≤ b))) ⊎ ((s ≡ b + 1) × ((2 * (b * u) + u ≤ 2 * n) ⊎ (b < d)))

near : (n u b s d : ℕ) → b * u ≤ n → n < (b + 1) * u → IsSide n u b s d → gap n (s * u) ≤ gap n (d * u)
near n u b s d lo hi (inl (e, h)) =
    let at : s * u ≡ b * u = ap (λ z. z * u) e in
    elim (cases_lt b d) [
      | inl l ↦ (let far : (b + 1) * u ≤ d * u = mul-le-mul_right u (omega arith) in elim h [ inl g ↦ omega arith | inr g ↦ absurd (omega arith) ])
      | inr g ↦ (let far : d * u ≤ b * u = mul-le-mul_right u g in omega arith)
    ]
near n u b s d lo hi (inr (e, h)) =
    let at : s * u ≡ (b + 1) * u = ap (λ z. z * u) e in
    elim (cases_lt b d) [
      | inl l ↦ (let far : (b + 1) * u ≤ d * u = mul-le-mul_right u (omega arith) in omega arith)
      | inr g ↦ (let far : d * u ≤ b * u = mul-le-mul_right u g in elim h [ inl k ↦ omega arith | inr k ↦ absurd (omega arith) ])
    ]

-- the nearest number is as near as the other
nearest_side : (n u : ℕ) → ((nearest_whole n u ≡ n / u) × (2 * n ≤ 2 * (n / u * u) + u)) ⊎ ((nearest_whole n u ≡ n / u + 1) × (2 * (n / u * u) + u ≤ 2 * n))
nearest_side n u =
    let parts = div-add-mod' n u in
    elim (cases_lt (2 * (n % u)) u) [
      | inl l ↦ inl (rw (lt-ltb _ _ l) refl, omega arith)
      | inr g ↦ elim (cases_lt u (2 * (n % u))) [
        | inl l ↦ inr (rw (le-ltb _ _ g, lt-ltb _ _ l) refl, omega arith)
        | inr h ↦ elim (cases_lt (n / u % 2) 1) [
          | inl e ↦ (let z : n / u % 2 ≡ 0 = omega arith in inl (rw (le-ltb _ _ g, le-ltb _ _ h, z) (add-zero _), omega arith))
          | inr e ↦ (let o : n / u % 2 ≡ 1 = omega arith in inr (rw (le-ltb _ _ g, le-ltb _ _ h, o) refl, omega arith))
        ]
      ]
    ]

digits_side : (f : Format) (s q : ℕ) → ((digits_nearest f s q ≡ digits_below f s q) × (2 * numerator s ≤ 2 * (digits_below f s q * denominator f q) + denominator f q))
    ⊎ ((digits_nearest f s q ≡ digits_below f s q + 1) × (2 * (digits_below f s q * denominator f q) + denominator f q ≤ 2 * numerator s))
unfolding digits_nearest digits_below
digits_side f s q = nearest_side (numerator s) (denominator f q)

module _ (f : Format) (bits : ℕ) (S : 0 < bits) (F : bits < ones f * hid f) where
  abbrev n : ℕ
  n = numerator (units f bits)

  -- a decimal that reads as the float is no nearer on its side than the neighbour there, which then does
  lower : (q d : ℕ) → reads_as f bits q d ≡ true → d ≤ digits_below f (units f bits) q → reads_as f bits q (digits_below f (units f bits) q) ≡ true
  lower q d r h = below_amid f bits S F (d * 10 ^ q) scale q (digits_below f (units f bits) q) scale_pos (to_float f bits S F q d r) (mul-le-mul_right scale (mul-le-mul_right (10 ^ q) h)) (below_le f bits S F q)

  upper : (q d : ℕ) → reads_as f bits q d ≡ true → digits_below f (units f bits) q < d → reads_as f bits q (digits_below f (units f bits) q + 1) ≡ true
  upper q d r h =
      above_amid f bits S F (d * 10 ^ q) scale q (digits_below f (units f bits) q + 1) scale_pos (to_float f bits S F q d r) (le_of_lt (above_gt f bits S F q)) (mul-le-mul_right scale (mul-le-mul_right (10 ^ q) (omega arith)))

  any_has : (q d : ℕ) → reads_as f bits q d ≡ true → has_decimal f bits q ≡ true
  any_has q d r =
      let b = digits_below f (units f bits) q in
      elim (cases_lt b d) [
        | inr g ↦ sym (found_below f bits q b refl (sym (lower q d r g)))
        | inl l ↦ elim (cases_Bool (reads_as f bits q b)) [
          | inl e ↦ sym (found_below f bits q b refl (sym e))
          | inr e ↦ sym (found_above f bits q b true refl (sym e) (sym (upper q d r l)))
        ]
      ]

  -- no decimal with a greater power reads as the float
  pub power_most : (q d : ℕ) → reads_as f bits q d ≡ true → q ≤ shortest_power f bits
  power_most q d r =
      let p = shortest_power f bits in
      elim (cases_lt p q) [
        | inr g ↦ g
        | inl l ↦ (let e : suc (p + (q - suc p)) ≡ q = omega arith in absurd (true≢false (sym (any_has q d r) ∙ ap (has_decimal f bits) (sym e) ∙ none_above f bits S F p (q - suc p) (none_next f bits S F))))
      ]

  written_reads : reads_as f bits (shortest_power f bits) (shortest_digits f bits) ≡ true
  written_reads = chosen_reads f bits S F (shortest_power f bits) (found f bits S F)

  pub fewest : (q d k : ℕ) → reads_as f bits q d ≡ true → d < 10 ^ k → shortest_digits f bits < 10 ^ k
  fewest q d zero r h =
      let none : d ≡ 0 = omega arith in
      absurd (true≢false (sym r ∙ ap (reads_as f bits q) none ∙ none_zero f bits S F q))
  fewest q d (suc k) r h =
      let p = shortest_power f bits in
      let s = shortest_digits f bits in
      elim (cases_lt s (10 ^ suc k)) [
        | inl l ↦ l
        | inr g ↦
            let order = power_most q d r in
            let lo : d * 10 ^ q * scale ≤ 10 ^ k * 10 ^ suc p * scale = mul-le-mul_right scale (le_trans (mul-le-mul (le_of_lt h) (pow-le-pow_right (lit< tt) order)) (le_of_eq (shifted k p))) in
            let hi : 10 ^ k * 10 ^ suc p * scale ≤ s * 10 ^ p * scale = mul-le-mul_right scale (le_trans (le_of_eq (sym (shifted k p))) (mul-le-mul_right (10 ^ p) g)) in
            let between = decimal_amid f bits S F (d * 10 ^ q) (s * 10 ^ p) (suc p) (10 ^ k) (to_float f bits S F q d r) (to_float f bits S F p s written_reads) lo hi in
            absurd (omega (arith, power_most (suc p) (10 ^ k) between))
      ]
    where
      turn : (a b : ℕ) → a * 10 * b ≡ a * (b * 10)
      turn a b = grind arith

      shifted : (k p : ℕ) → 10 ^ suc k * 10 ^ p ≡ 10 ^ k * 10 ^ suc p
      shifted k p = ap (λ z. z * 10 ^ p) (pow-suc 10 k) ∙ turn (10 ^ k) (10 ^ p) ∙ ap (λ z. 10 ^ k * z) (sym (pow-suc 10 p))

  side : (q d : ℕ) → reads_as f bits q d ≡ true → IsSide n (denominator f q) (digits_below f (units f bits) q) (digits_at f bits q) d
  unfolding digits_at
  side q d r =
      let b = digits_below f (units f bits) q in
      let near = digits_side f (units f bits) q in
      elim (cases_Bool (reads_as f bits q (digits_nearest f (units f bits) q))) [
        | inl e ↦ rw e (elim near [ inl p ↦ inl (p.0, inl p.1) | inr p ↦ inr (p.0, inl p.1) ])
        | inr e ↦ elim near [
          | inl p ↦
              let other : reads_as f bits q b ≡ false = ap (reads_as f bits q) (sym p.0) ∙ e in
              let above : b < d = elim (cases_lt b d) [ inl l ↦ l | inr g ↦ absurd (true≢false (sym (lower q d r g) ∙ other)) ] in
              rw (e, other) (inr (refl, inr above))
          | inr p ↦
              let other : reads_as f bits q (b + 1) ≡ false = ap (reads_as f bits q) (sym p.0) ∙ e in
              let under : d ≤ b = elim (cases_lt b d) [ inl l ↦ absurd (true≢false (sym (upper q d r l) ∙ other)) | inr g ↦ g ] in
              rw (e, lower q d r under) (inl (refl, inr under))
        ]
      ]

  pub nearest : (d : ℕ) → reads_as f bits (shortest_power f bits) d ≡ true → distance f bits (shortest_digits f bits) ≤ distance f bits d
  nearest d r =
      let q = shortest_power f bits in
      let b = digits_below f (units f bits) q in
      near n (denominator f q) b (shortest_digits f bits) d (below_le f bits S F q) (above_gt f bits S F q) (side q d r)
