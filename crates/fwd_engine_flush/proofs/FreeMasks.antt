-- Masks with exactly the bits below a bound that pass a test.
use Rattle.std.proofs.Common.{◌≡◌, ◌⊎◌, inl, inr, ℕ, ◌+◌, ◌*◌, ◌%◌, ◌<◌, ◌≤◌, Bool, true, false, sym, subst, ◌∙◌, ap, arith}
use Prim.Native.Nat.{◌^◌}
use Rattle.std.specs.Prelude.{◌==◌}
use Rattle.std.specs.Int.{bit_at, w64}
use Rattle.std.specs.Int.RustNames.{bit_or}
use Rattle.std.proofs.lemmas.Nat.Bits.{bit_at_set_same, bit_at_set_other, bit_at-zero}
use Rattle.std.proofs.lemmas.Bool.{cases_eq, cases_lt}

module _ (test : ℕ → Bool) where
  -- a bit of the mask below the bound is the result of the test, and none is set from the bound on
  abbrev is_bit : ℕ → ℕ → ℕ → Type 0
  is_bit n mask i = (i < n → (bit_at mask i == 1) ≡ test i) × (n ≤ i → (bit_at mask i == 1) ≡ false)

  abbrev pub IsMaskBelow : ℕ → ℕ → Type 0
  IsMaskBelow n mask = (i : ℕ) → is_bit n mask i

  pub mask_none : IsMaskBelow 0 0
  mask_none i = (λ less. absurd (omega (arith, less)), λ _. ap (λ (b : ℕ). b == 1) (bit_at-zero i))

  -- the mask with one more bit
  abbrev with_bit : ℕ → ℕ → ℕ
  with_bit mask n = bit_or mask (1 * 2 ^ n % 2 ^ 64)

  pub mask_more : (n mask : ℕ) → n < 64 → test n ≡ true → IsMaskBelow n mask → IsMaskBelow (n + 1) (with_bit mask n)
  mask_more n mask within passes below i = by (cases_eq i n)
    where
      by : (i ≡ n) ⊎ (i ≡ n → ⊥) → is_bit (n + 1) (with_bit mask n) i
      by (inl same) = (
        λ _. subst (λ (k : ℕ). (bit_at (with_bit mask n) k == 1) ≡ test k) (sym same) (ap (λ (b : ℕ). b == 1) (bit_at_set_same w64 mask n within) ∙ sym passes),
        λ past. absurd (omega (arith, same, past)),
      )
      by (inr apart) =
          let kept = ap (λ (b : ℕ). b == 1) (bit_at_set_other w64 mask n within i apart) in
          (λ less. kept ∙ (below i).0 (omega (arith, less, apart)), λ past. kept ∙ (below i).1 (omega (arith, past)))

  pub mask_same : (n mask : ℕ) → test n ≡ false → IsMaskBelow n mask → IsMaskBelow (n + 1) mask
  mask_same n mask fails below i = by (cases_eq i n)
    where
      by : (i ≡ n) ⊎ (i ≡ n → ⊥) → is_bit (n + 1) mask i
      by (inl same) = (
        λ _. subst (λ (k : ℕ). (bit_at mask k == 1) ≡ test k) (sym same) ((below n).1 (omega arith) ∙ sym fails),
        λ past. absurd (omega (arith, same, past)),
      )
      by (inr apart) = (λ less. (below i).0 (omega (arith, less, apart)), λ past. (below i).1 (omega (arith, past)))

  -- no number from the bound on passes the test
  pub mask_all : (n mask : ℕ) → ((i : ℕ) → n ≤ i → test i ≡ false) → IsMaskBelow n mask → (i : ℕ) → (bit_at mask i == 1) ≡ test i
  mask_all n mask none below i = elim (cases_lt i n) [
    | inl less ↦ (below i).0 less
    | inr past ↦ (below i).1 past ∙ sym (none i past)
  ]
