-- A number as limbs of 64 bits, the lowest first.
unfoldable pub use Rattle.core.specs.Dec2flt.Limbs.{limb_weight, value_below}
pub use Rattle.core.specs.Dec2flt.Limbs.{AreZeroFrom}
