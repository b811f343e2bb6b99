-- Masks with a bit for each number below a bound that satisfies a predicate.
use Rattle.std.proofs.Common.{◌≡◌, ◌⊎◌, inl, inr, ◌↔◌, ℕ, ◌+◌, ◌*◌, ◌%◌, ◌<◌, sym, subst, ◌∙◌, arith}
use Prim.Native.Nat.{◌^◌}
use Rattle.std.specs.Int.{IsBitSet, bit_at, w64}
use Rattle.std.specs.Int.RustNames.{bit_or}
use Rattle.std.proofs.lemmas.Nat.{bit_set_by_shift}
use Rattle.std.proofs.lemmas.Nat.Bits.{shr_and_one, bit_at_set_same, bit_at_set_other, bit_at-zero}
use Rattle.std.proofs.lemmas.Bool.{cases_eq}

-- bit i is set exactly if P holds for i, for i below n
abbrev pub MaskBelow : ℕ → (ℕ → Type 0) → ℕ → Type 0
MaskBelow n P mask = (i : ℕ) → IsBitSet mask i ↔ ((i < n) × P i)

from_bit : (mask i : ℕ) → IsBitSet mask i → bit_at mask i ≡ 1
from_bit mask i set = sym (shr_and_one mask i) ∙ (bit_set_by_shift mask i).1 set

to_bit : (mask i : ℕ) → bit_at mask i ≡ 1 → IsBitSet mask i
to_bit mask i is = (bit_set_by_shift mask i).0 (shr_and_one mask i ∙ is)

pub mask_none : (P : ℕ → Type 0) → MaskBelow 0 P 0
mask_none P i =
    (λ set. let one = from_bit 0 i set in let none = bit_at-zero i in absurd (omega (arith, one, none)), λ below. let less : i < 0 = below.0 in absurd (omega (arith, less)))

pub mask_whole : (n : ℕ) (P : ℕ → Type 0) (mask : ℕ) → ((i : ℕ) → P i → i < n) → MaskBelow n P mask → (i : ℕ) → IsBitSet mask i ↔ P i
mask_whole n P mask within below i = (λ set. ((below i).0 set).1, λ holds. (below i).1 (within i holds, holds))

skip_by : (n : ℕ) (P : ℕ → Type 0) (i : ℕ) → (P n → ⊥) → (i ≡ n) ⊎ (i ≡ n → ⊥) → i < n + 1 → P i → i < n
skip_by n P i other (inl same) below holds = absurd (other (subst P same holds))
skip_by n P i other (inr apart) below holds = omega (arith, below, apart)

pub mask_skip : (n : ℕ) (P : ℕ → Type 0) (mask : ℕ) → (P n → ⊥) → MaskBelow n P mask → MaskBelow (n + 1) P mask
mask_skip n P mask other below i = (
  λ set. let old = (below i).0 set in let less : i < n = old.0 in (omega (arith, less), old.1),
  λ next. (below i).1 (skip_by n P i other (cases_eq i n) next.0 next.1, next.1),
)

-- the mask with one more bit
abbrev pub with_bit : ℕ → ℕ → ℕ
with_bit mask n = bit_or mask (1 * 2 ^ n % 2 ^ 64)

pub mask_more : (n : ℕ) (P : ℕ → Type 0) (mask : ℕ) → n < 64 → P n → MaskBelow n P mask → MaskBelow (n + 1) P (with_bit mask n)
mask_more n P mask within holds below i = by (cases_eq i n)
  where
    by : (i ≡ n) ⊎ (i ≡ n → ⊥) → IsBitSet (with_bit mask n) i ↔ ((i < n + 1) × P i)
    by (inl same) =
        let set : bit_at (with_bit mask n) i ≡ 1 = subst (λ (k : ℕ). bit_at (with_bit mask n) k ≡ 1) (sym same) (bit_at_set_same w64 mask n within) in
        (λ now. (omega (arith, same), subst P (sym same) holds), λ next. to_bit (with_bit mask n) i set)
    by (inr apart) =
        let kept : bit_at (with_bit mask n) i ≡ bit_at mask i = bit_at_set_other w64 mask n within i apart in (
          λ now. let old = (below i).0 (to_bit mask i (sym kept ∙ from_bit (with_bit mask n) i now)) in let less : i < n = old.0 in (omega (arith, less), old.1),
          λ next. let under : i < n + 1 = next.0 in to_bit (with_bit mask n) i (kept ∙ from_bit mask i ((below i).1 (omega (arith, under, apart), next.1))),
        )
