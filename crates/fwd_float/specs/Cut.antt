-- The digits below a float, and what was cut off last, as the code holds them.
use Rattle.std.specs.Prelude.{◌≡◌, ℕ, ◌+◌, ◌%◌, ◌↔◌, IsTrue}
use Rattle.std.specs.Float.Ieee.{Format}
use Rattle.fwd_float.specs.Ratio.{IsExact}
use Rattle.fwd_float.specs.Shortest.{digits_below}
use Rattle.fwd_float.specs.declared.shortest.Cut.{Cut}

-- with `last`, these are the digits at the power before, below which nothing is left where `exact`
pub record IsCut (f : Format) (size : ℕ) (cut : Cut) : Type 0 where
  pub digits : cut.digits ≡ digits_below f size (cut.before + 1)
  pub last : cut.last ≡ digits_below f size cut.before % 10
  pub exact : IsTrue cut.exact ↔ IsExact f size cut.before
