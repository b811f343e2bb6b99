-- Bits of a mask.
use Rattle.std.proofs.Common.{◌≡◌, ℕ, Bool, true, false, not, eqb, refl, sym, ◌∙◌}
use Rattle.std.specs.Int.{IsBitSet, bit_at}
use Rattle.std.proofs.lemmas.Nat.{bit_set_by_shift}
use Rattle.std.proofs.lemmas.Nat.Bits.{shr_and_one}
use Rattle.std.proofs.lemmas.Bool.{eqb-false}

-- a bit that isn't set
pub not_set : (mask bit : ℕ) → eqb (bit_at mask bit) 1 ≡ false → IsBitSet mask bit → ⊥
not_set mask bit is set = eqb-false (bit_at mask bit) 1 is (sym (shr_and_one mask bit) ∙ (bit_set_by_shift mask bit).1 set)

pub not_true : (b : Bool) → not b ≡ true → b ≡ false
not_true true is = absurd (cc is)
not_true false is = refl
