-- A word fits among the limbs.
use Rattle.std.proofs.Common.{ℕ, ◌^◌, ◌<◌, lit≤}
use Rattle.core.specs.Dec2flt.Limbs.{limb_weight}
use native.Mathlib.Nat.{lt_of_lt_of_le}

pub word_fits : (n : ℕ) → n < 2 ^ 64 → n < limb_weight 40
unfolding limb_weight
word_fits n h = lt_of_lt_of_le h (lit≤ tt)
