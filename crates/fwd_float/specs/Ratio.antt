-- A float over a power of ten, as the code holds it.
use Rattle.std.specs.Prelude.{◌≡◌, ℕ, ◌*◌, ◌/◌, ◌%◌, ◌^◌, ◌<◌, ◌↔◌}
use Rattle.std.specs.Float.Ieee.{Format}
use Rattle.fwd_float.specs.Limbs.{limb_weight}
use Rattle.fwd_float.specs.Shortest.{numerator, denominator, digits_below}
use Rattle.fwd_float.specs.declared.precision.Size.{Size}
use Rattle.fwd_float.specs.declared.ratio.Ratio.{Ratio}

abbrev pub units_of : Size → ℕ
units_of size = size.significand * 2 ^ size.exponent

-- what the digits just below the float leave of it is nothing
abbrev pub IsExact : Format → ℕ → ℕ → Type 0
IsExact f size power = numerator size % denominator f power ≡ 0

-- the divisor is not 0, and has room to be multiplied by a word
pub record HasRoom (r : Ratio) : Type 0 where
  pub some : 0 < r.under
  pub room : r.under * 2 ^ 64 < limb_weight 40

-- the fraction is the float over 10 ^ power / 10 ^ 400
pub record IsRatio (f : Format) (size power : ℕ) (r : Ratio) : Type 0 where
  pub whole : r.above / r.under ≡ digits_below f size power
  pub exact : (r.above % r.under ≡ 0) ↔ IsExact f size power
