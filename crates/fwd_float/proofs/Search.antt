-- The greatest power with a decimal that reads as the float, and the digits at it.
use Rattle.std.proofs.Common.{◌≡◌, ℕ, zero, suc, ◌+◌, ◌-◌, ◌*◌, ◌/◌, ◌%◌, ◌^◌, ◌<◌, ◌≤◌, ◌⊎◌, Bool, true, false, cond, ◌||◌, refl, sym, ap, ◌∙◌, subst, inl, inr, arith, true≢false, mod-lt, add-zero, add-suc}
use Rattle.std.proofs.lemmas.Bool.{cases_Bool, cases_lt, lt-ltb, le-ltb}
use native.Mathlib.Nat.{le_trans}
use lib.Pow.{pow_mono}
use lib.Ieee.{Format, prec, hid, ones}
use Rattle.fast_float.proofs.Patterns.{shape}
use Rattle.fwd_float.specs.Shortest.{units, numerator, denominator, reads_as, digits_below, digits_nearest, digits_at, has_decimal, power_up_to, shortest_power, shortest_digits, nearest_whole}
use Rattle.fwd_float.proofs.Quotients.{denominator_pos, denominator_next, below_next, rest_next, large_at_zero}
use Rattle.fwd_float.proofs.Reading.{downward, enough, has_none}
use Rattle.fwd_float.proofs.Sizes.{some_size}

or_left : (a b : Bool) → a ≡ true → (a || b) ≡ true
or_left true b e = refl
or_left false b e = absurd (true≢false (sym e))

-- ---- one of the two neighbours
whole_cases : (n d : ℕ) → (nearest_whole n d ≡ n / d) ⊎ (nearest_whole n d ≡ n / d + 1)
whole_cases n d =
    elim (cases_lt (2 * (n % d)) d) [
      | inl l ↦ inl (rw (lt-ltb _ _ l) refl)
      | inr g ↦ elim (cases_lt d (2 * (n % d))) [
        | inl l ↦ inr (rw (le-ltb _ _ g, lt-ltb _ _ l) refl)
        | inr h ↦ elim (even (n / d)) [ inl e ↦ inl (rw (le-ltb _ _ g, le-ltb _ _ h, e) (add-zero _)) | inr o ↦ inr (rw (le-ltb _ _ g, le-ltb _ _ h, o) refl) ]
      ]
    ]
  where
    even : (w : ℕ) → (w % 2 ≡ 0) ⊎ (w % 2 ≡ 1)
    even w = elim (cases_lt (w % 2) 1) [ inl l ↦ inl (omega arith) | inr g ↦ inr (omega arith) ]

pub nearest_cases : (f : Format) (s q : ℕ) → (digits_nearest f s q ≡ digits_below f s q) ⊎ (digits_nearest f s q ≡ digits_below f s q + 1)
unfolding digits_nearest digits_below
nearest_cases f s q = whole_cases (numerator s) (denominator f q)

-- by the digit that goes and what is left below it
module _ (f : Format) (s q : ℕ) where
  abbrev last : ℕ
  last = digits_below f s q % 10

  abbrev rest : ℕ
  rest = numerator s % denominator f q

  less_than : rest < denominator f q
  less_than = mod-lt (numerator s) (denominator_pos f q)

  small_last : (l d : ℕ) → l ≤ 4 → l * d ≤ 4 * d
  small_last l d h = native.Mathlib.Nat.mul-le-mul_right d h

  large_last : (l d : ℕ) → 6 ≤ l → 6 * d ≤ l * d
  large_last l d h = native.Mathlib.Nat.mul-le-mul_right d h

  pub nearest_down : last < 5 → digits_nearest f s (suc q) ≡ digits_below f s (suc q)
  unfolding digits_nearest digits_below
  nearest_down h =
      let l : 2 * (numerator s % denominator f (suc q)) < denominator f (suc q) = omega (arith, rest_next f s q, denominator_next f q, less_than, small_last last (denominator f q) (omega arith)) in
      rw (lt-ltb _ _ l) refl

  up : denominator f (suc q) < 2 * (numerator s % denominator f (suc q)) → digits_nearest f s (suc q) ≡ digits_below f s (suc q) + 1
  unfolding digits_nearest digits_below
  up l = rw (le-ltb _ _ (native.Mathlib.Nat.le_of_lt l), lt-ltb _ _ l) refl

  pub nearest_up : 5 < last → digits_nearest f s (suc q) ≡ digits_below f s (suc q) + 1
  nearest_up h = up (omega (arith, rest_next f s q, denominator_next f q, large_last last (denominator f q) (omega arith), denominator_pos f q))

  pub nearest_past : last ≡ 5 → 0 < rest → digits_nearest f s (suc q) ≡ digits_below f s (suc q) + 1
  nearest_past h r = up (omega (arith, rest_next f s q, denominator_next f q, ap (λ l. l * denominator f q) h))

  pub nearest_tie : last ≡ 5 → rest ≡ 0 → digits_nearest f s (suc q) ≡ digits_below f s (suc q) + digits_below f s (suc q) % 2
  unfolding digits_nearest digits_below
  nearest_tie h r =
      let e : 2 * (numerator s % denominator f (suc q)) ≡ denominator f (suc q) = omega (arith, rest_next f s q, denominator_next f q, ap (λ l. l * denominator f q) h) in
      rw (le-ltb _ _ (native.Mathlib.Nat.le_of_eq (sym e)), le-ltb _ _ (native.Mathlib.Nat.le_of_eq e)) refl

module _ (f : Format) (bits : ℕ) (S : 0 < bits) (F : bits < ones f * hid f) where
  read_below : (q : ℕ) → reads_as f bits q (digits_below f (units f bits) q) ≡ true → has_decimal f bits q ≡ true
  unfolding has_decimal
  read_below q e = or_left _ _ e

  pub with_enough : (q : ℕ) → 2 ^ 55 ≤ digits_below f (units f bits) q → has_decimal f bits q ≡ true
  unfolding has_decimal
  with_enough q h =
      let s = shape f in
      let few : prec f + 2 ≤ 55 = omega arith in
      or_left _ _ (enough f bits S F q (le_trans (pow_mono few) h))

  pub none_above : (q n : ℕ) → has_decimal f bits (suc q) ≡ false → has_decimal f bits (suc (q + n)) ≡ false
  none_above q zero h = rw add-zero h
  none_above q (suc n) h =
      elim (cases_Bool (has_decimal f bits (suc (q + suc n)))) [
        | inr e ↦ e
        | inl e ↦ absurd (true≢false (sym (downward f bits S F (suc (q + n)) (rw add-suc at e)) ∙ none_above q n h))
      ]

  at_itself : (q : ℕ) → has_decimal f bits q ≡ true → power_up_to f bits q ≡ q
  unfolding power_up_to
  at_itself zero h = refl
  at_itself (suc q) h = rw h refl

  skipped : (q : ℕ) → has_decimal f bits (suc q) ≡ false → power_up_to f bits (suc q) ≡ power_up_to f bits q
  unfolding power_up_to
  skipped q h = rw h refl

  greatest_up_to : (q n : ℕ) → has_decimal f bits q ≡ true → has_decimal f bits (suc q) ≡ false → power_up_to f bits (q + n) ≡ q
  greatest_up_to q zero h none = rw add-zero (at_itself q h)
  greatest_up_to q (suc n) h none = rw add-suc (skipped (q + n) (none_above q n none) ∙ greatest_up_to q n h none)

  pub greatest : (q : ℕ) → q ≤ 800 → has_decimal f bits q ≡ true → has_decimal f bits (suc q) ≡ false → shortest_power f bits ≡ q
  greatest q l h none =
      let e : q + (800 - q) ≡ 800 = omega arith in
      subst (λ n. power_up_to f bits n ≡ q) e (greatest_up_to q (800 - q) h none)

  found_up_to : (n : ℕ) → has_decimal f bits (power_up_to f bits n) ≡ true
  unfolding power_up_to
  found_up_to zero = with_enough 0 (omega (arith, large_at_zero f (units f bits) (some_size f bits S F)))
  found_up_to (suc n) = elim (cases_Bool (has_decimal f bits (suc n))) [ inl e ↦ rw e e | inr e ↦ rw e (found_up_to n) ]

  pub found : has_decimal f bits (shortest_power f bits) ≡ true
  found = found_up_to 800

  pub below_bound : (n : ℕ) → power_up_to f bits n ≤ n
  unfolding power_up_to
  below_bound zero = omega arith
  below_bound (suc n) = elim (cases_Bool (has_decimal f bits (suc n))) [ inl e ↦ rw e (native.Mathlib.Nat.le_refl (suc n)) | inr e ↦ rw e (omega (arith, below_bound n)) ]

  none_after : (n : ℕ) → power_up_to f bits n < n → has_decimal f bits (suc (power_up_to f bits n)) ≡ false
  unfolding power_up_to
  none_after zero l = absurd (omega arith)
  none_after (suc n) l =
      elim (cases_Bool (has_decimal f bits (suc n))) [
        | inl e ↦ absurd (native.Mathlib.Nat.lt_irrefl (suc n) (rw e at l))
        | inr e ↦ rw e (elim (cases_lt (power_up_to f bits n) n) [ inl a ↦ none_after n a | inr a ↦ (let same : power_up_to f bits n ≡ n = omega (arith, below_bound n) in rw same e) ])
      ]

  pub none_next : has_decimal f bits (suc (shortest_power f bits)) ≡ false
  none_next =
      let q = shortest_power f bits in
      elim (cases_lt q 800) [ inl a ↦ none_after 800 a | inr a ↦ has_none f bits S F (suc q) (omega arith) ]

  -- what is chosen reads as the float, where anything does
  pub chosen_reads : (q : ℕ) → has_decimal f bits q ≡ true → reads_as f bits q (digits_at f bits q) ≡ true
  unfolding has_decimal digits_at
  chosen_reads q h = choose (reads_as f bits q) _ _ h
    where
      choose : (r : ℕ → Bool) (b n : ℕ) → (r b || r (b + 1)) ≡ true → r (cond (r n) n (cond (r b) b (b + 1))) ≡ true
      choose r b n h =
          elim (cases_Bool (r n)) [
            | inl e ↦ rw e e
            | inr e ↦ rw e (elim (cases_Bool (r b)) [ inl g ↦ rw g g | inr g ↦ rw g (rw g at h) ])
          ]

  chosen_cases : (q : ℕ) → (digits_at f bits q ≡ digits_below f (units f bits) q) ⊎ (digits_at f bits q ≡ digits_below f (units f bits) q + 1)
  unfolding digits_at
  chosen_cases q =
      elim (cases_Bool (reads_as f bits q (digits_nearest f (units f bits) q))) [
        | inl e ↦ rw e (nearest_cases f (units f bits) q)
        | inr e ↦ rw e (elim (cases_Bool (reads_as f bits q (digits_below f (units f bits) q))) [ inl g ↦ inl (rw g refl) | inr g ↦ inr (rw g refl) ])
      ]

  few_below : digits_below f (units f bits) (suc (shortest_power f bits)) < 2 ^ (prec f + 2)
  few_below =
      let q = shortest_power f bits in
      let s = units f bits in
      let less : digits_below f s (suc q) < 2 ^ (prec f + 2) =
      elim (cases_lt (digits_below f s (suc q)) (2 ^ (prec f + 2))) [ inl l ↦ l | inr g ↦ absurd (true≢false (sym (read_below (suc q) (enough f bits S F (suc q) g)) ∙ none_next)) ] in
      less

  pub few_digits : shortest_digits f bits ≤ 10 * 2 ^ (prec f + 2)
  few_digits =
      let q = shortest_power f bits in
      let less = few_below in
      let next = below_next f (units f bits) q in
      elim (chosen_cases q) [ inl e ↦ omega arith | inr e ↦ omega arith ]

-- ---- what the code's steps find
module _ (f : Format) (bits q n d : ℕ) (N : n ≡ digits_nearest f (units f bits) q) (D : d ≡ digits_below f (units f bits) q) where
  pub chose_nearest : true ≡ reads_as f bits q n → n ≡ digits_at f bits q
  unfolding digits_at
  chose_nearest r = let e : reads_as f bits q (digits_nearest f (units f bits) q) ≡ true = ap (reads_as f bits q) (sym N) ∙ sym r in rw e N

  pub chose_below : false ≡ reads_as f bits q n → true ≡ reads_as f bits q d → d ≡ digits_at f bits q
  unfolding digits_at
  chose_below r t =
      let e : reads_as f bits q (digits_nearest f (units f bits) q) ≡ false = ap (reads_as f bits q) (sym N) ∙ sym r in
      let g : reads_as f bits q (digits_below f (units f bits) q) ≡ true = ap (reads_as f bits q) (sym D) ∙ sym t in
      rw (e, g) D

  pub chose_above : false ≡ reads_as f bits q n → false ≡ reads_as f bits q d → d + 1 ≡ digits_at f bits q
  unfolding digits_at
  chose_above r t =
      let e : reads_as f bits q (digits_nearest f (units f bits) q) ≡ false = ap (reads_as f bits q) (sym N) ∙ sym r in
      let g : reads_as f bits q (digits_below f (units f bits) q) ≡ false = ap (reads_as f bits q) (sym D) ∙ sym t in
      rw (e, g) (ap (λ x. x + 1) D)

pub found_below : (f : Format) (bits q d : ℕ) → d ≡ digits_below f (units f bits) q → true ≡ reads_as f bits q d → true ≡ has_decimal f bits q
unfolding has_decimal
found_below f bits q d D r = sym (or_left _ _ (ap (reads_as f bits q) (sym D) ∙ sym r))

pub found_above : (f : Format) (bits q d : ℕ) (r : Bool) → d ≡ digits_below f (units f bits) q → false ≡ reads_as f bits q d → r ≡ reads_as f bits q (d + 1) → r ≡ has_decimal f bits q
unfolding has_decimal
found_above f bits q d r D below e =
    let g : reads_as f bits q (digits_below f (units f bits) q) ≡ false = ap (reads_as f bits q) (sym D) ∙ sym below in
    rw g (e ∙ ap (λ x. reads_as f bits q (x + 1)) D)
