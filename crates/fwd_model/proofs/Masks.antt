-- The set bits of a sum of different powers of two are exactly the summed ones.
use Rattle.std.proofs.Common.{◌≡◌, inl, inr, ◌↔◌, ℕ, zero, suc, ◌+◌, ◌-◌, ◌*◌, ◌<◌, ◌≤◌, Bool, true, [], refl, sym, ◌∙◌, ap, subst, arith}
use Prim.Native.Nat.{◌^◌}
use Rattle.std.specs.Prelude.{if◌then◌else◌, sum_by}
use Rattle.std.specs.Int.{IsBitSet, bit_at}
use Rattle.std.specs.List.{range_with_len}
use Rattle.std.proofs.lemmas.Bool.{cases_Bool, cases_eq, cases_lt}
use Rattle.std.proofs.lemmas.Grind.{pow_more}
use Rattle.std.proofs.lemmas.Nat.{bit_set_by_shift}
use Rattle.std.proofs.lemmas.Nat.Bits.{shr_and_one, bit_at-lt, bit_at_above, bit_at_cat_low, bit_at_cat_high, same_from_bits}
use Rattle.std.proofs.lemmas.List.Sums.{sum_by-cons}

sum_more : (g : ℕ → ℕ) (a n : ℕ) → sum_by g (range_with_len a (n + 1)) ≡ sum_by g (range_with_len a n) + g (a + n)
sum_more g a zero = sum_by-cons g a [] ∙ (let none : a ≡ a + 0 = omega arith in let e : g a ≡ g (a + 0) = ap g none in omega (arith, e))
sum_more g a (suc n) =
    let long : suc n + 1 ≡ suc (n + 1) = omega arith in
    let first : sum_by g (range_with_len a (suc n + 1)) ≡ g a + sum_by g (range_with_len (a + 1) (n + 1)) = ap (λ (k : ℕ). sum_by g (range_with_len a k)) long ∙ sum_by-cons g a (range_with_len (a + 1) (n + 1)) in
    let rest = sum_more g (a + 1) n in
    let moved : a + 1 + n ≡ a + suc n = omega arith in
    let same : g (a + 1 + n) ≡ g (a + suc n) = ap g moved in
    let before = sum_by-cons g a (range_with_len (a + 1) n) in
    omega (arith, first, rest, same, before)

module _ (p : ℕ → Bool) where
  abbrev bit : ℕ → ℕ
  bit i = if p i then 2 ^ i else 0

  abbrev whole : ℕ → ℕ
  whole n = sum_by bit (range_with_len 0 n)

  more : (n : ℕ) → whole (n + 1) ≡ whole n + bit n
  more n = sum_more bit 0 n ∙ (let none : 0 + n ≡ n = omega arith in let e : bit (0 + n) ≡ bit n = ap bit none in omega (arith, e))

  bit_small : (n : ℕ) → bit n ≤ 2 ^ n
  bit_small n = elim (cases_Bool (p n)) [ inl is ↦ rw is (omega arith) | inr isnt ↦ rw isnt (omega arith) ]

  small : (n : ℕ) → whole n < 2 ^ n
  small zero = omega arith
  small (suc n) =
      let before = small n in
      let next = more n in
      let one = bit_small n in
      let twice : 2 ^ (n + 1) ≡ 2 ^ n * 2 = pow_more 2 n in
      let same : suc n ≡ n + 1 = omega arith in
      let up : whole (suc n) ≡ whole (n + 1) = ap whole same in
      let power : 2 ^ suc n ≡ 2 ^ (n + 1) = ap (λ (k : ℕ). 2 ^ k) same in
      omega (arith, before, next, one, twice, up, power)

  -- the bit of a number below the bound is set exactly if the number passes
  step_low : (n i : ℕ) → i < n → bit_at (whole (n + 1)) i ≡ bit_at (whole n) i
  step_low n i below = elim (cases_Bool (p n)) [
    | inl is ↦
        let one : bit n ≡ 2 ^ n = rw is refl in
        let sum : whole (n + 1) ≡ 1 * 2 ^ n + whole n = let next = more n in omega (arith, next, one) in
        ap (λ (m : ℕ). bit_at m i) sum ∙ bit_at_cat_low 1 n (whole n) i below
    | inr isnt ↦
        let none : bit n ≡ 0 = rw isnt refl in
        let sum : whole (n + 1) ≡ whole n = let next = more n in omega (arith, next, none) in
        ap (λ (m : ℕ). bit_at m i) sum
  ]

  step_own : (n : ℕ) → bit_at (whole (n + 1)) n ≡ (if p n then 1 else 0)
  step_own n = elim (cases_Bool (p n)) [
    | inl is ↦
        let one : bit n ≡ 2 ^ n = rw is refl in
        let sum : whole (n + 1) ≡ 1 * 2 ^ n + whole n = let next = more n in omega (arith, next, one) in
        let none : n - n ≡ 0 = omega arith in
        let first : bit_at 1 (n - n) ≡ 1 = rw none refl in
        ap (λ (m : ℕ). bit_at m n) sum ∙ bit_at_cat_high 1 n (whole n) n (small n) (omega arith) ∙ first ∙ rw is refl
    | inr isnt ↦
        let none : bit n ≡ 0 = rw isnt refl in
        let sum : whole (n + 1) ≡ whole n = let next = more n in omega (arith, next, none) in
        ap (λ (m : ℕ). bit_at m n) sum ∙ bit_at_above (whole n) n n (small n) (omega arith) ∙ rw isnt refl
  ]

  pub bit_in_mask : (n i : ℕ) → i < n → bit_at (whole n) i ≡ (if p i then 1 else 0)
  bit_in_mask zero i below = absurd (omega (arith, below))
  bit_in_mask (suc n) i below =
      let same : suc n ≡ n + 1 = omega arith in
      let up : whole (suc n) ≡ whole (n + 1) = ap whole same in
      let again = bit_in_mask n i in
      ap (λ (m : ℕ). bit_at m i) up ∙ elim (cases_lt i n) [
        | inl less ↦ step_low n i less ∙ again less
        | inr beyond ↦ let last : n ≡ i = omega (arith, below, beyond) in subst (λ (k : ℕ). bit_at (whole (n + 1)) k ≡ (if p k then 1 else 0)) last (step_own n)
      ]

  from_bit : (mask i : ℕ) → IsBitSet mask i → bit_at mask i ≡ 1
  from_bit mask i set = sym (shr_and_one mask i) ∙ (bit_set_by_shift mask i).1 set

  to_bit : (mask i : ℕ) → bit_at mask i ≡ 1 → IsBitSet mask i
  to_bit mask i is = (bit_set_by_shift mask i).0 (shr_and_one mask i ∙ is)

  unset : (mask i : ℕ) → (IsBitSet mask i → ⊥) → bit_at mask i ≡ 0
  unset mask i none = elim (cases_eq (bit_at mask i) 1) [
    | inl one ↦ absurd (none (to_bit mask i one))
    | inr other ↦ let least = bit_at-lt mask i in omega (arith, least, other)
  ]

  -- a mask whose bits are exactly those that pass equals the sum
  pub mask_is : (n mask : ℕ) → ((i : ℕ) → IsBitSet mask i ↔ ((i < n) × (p i ≡ true))) → mask ≡ sum_by (λ i. if p i then 2 ^ i else 0) (range_with_len 0 n)
  mask_is n mask means = same_from_bits mask (whole n) each
    where
      each : (i : ℕ) → bit_at mask i ≡ bit_at (whole n) i
      each i = elim (cases_lt i n) [
        | inl less ↦ elim (cases_Bool (p i)) [
          | inl is ↦ from_bit mask i ((means i).1 (less, is)) ∙ sym (bit_in_mask n i less ∙ rw is refl)
          | inr isnt ↦ unset mask i (λ set. let is = ((means i).0 set).1 in absurd (cc (sym isnt ∙ is))) ∙ sym (bit_in_mask n i less ∙ rw isnt refl)
        ]
        | inr beyond ↦ unset mask i (λ set. let less : i < n = ((means i).0 set).0 in absurd (omega (arith, less, beyond))) ∙ sym (bit_at_above (whole n) n i (small n) beyond)
      ]

  -- bit i is set exactly if i is below the bound and passes
  pub bit_means : (n i : ℕ) → IsBitSet (sum_by (λ i. if p i then 2 ^ i else 0) (range_with_len 0 n)) i ↔ ((i < n) × (p i ≡ true))
  bit_means n i = elim (cases_lt i n) [
    | inl less ↦ elim (cases_Bool (p i)) [
      | inl is ↦ (λ set. (less, is), λ below. to_bit (whole n) i (bit_in_mask n i less ∙ rw is refl))
      | inr isnt ↦
          (λ set. let one = from_bit (whole n) i set in let none : bit_at (whole n) i ≡ 0 = bit_in_mask n i less ∙ rw isnt refl in absurd (omega (arith, one, none)), λ below. absurd (cc (sym isnt ∙ below.1)))
    ]
    | inr beyond ↦
        (λ set. let one = from_bit (whole n) i set in let none = bit_at_above (whole n) n i (small n) beyond in absurd (omega (arith, one, none)), λ below. let less : i < n = below.0 in absurd (omega (arith, less, beyond)))
  ]
