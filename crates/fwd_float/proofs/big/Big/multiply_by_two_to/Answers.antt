use native.Mathlib.Omega.{arith}
use Rattle.core.proofs.dec2flt.LimbsLemmas.{power_step}
use Rattle.fwd_float.proofs.big.Big.multiply_by_two_to.Goals as goal

pub multiply_add-requires : goal.multiply_add-requires
multiply_add-requires c = omega (arith, power_step 2 63 c.loop-left.self c.loop-left.left (omega arith) (omega arith))

pub loop-left-preserved : goal.loop-left-preserved
loop-left-preserved c = rw c.multiply_add.ensures (omega (arith, power_step 2 63 c.loop-left.self c.loop-left.left (omega arith) (omega arith)))
