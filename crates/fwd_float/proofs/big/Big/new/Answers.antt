use Rattle.core.specs.Prelude.{replicate}
use native.Mathlib.Omega.{arith}
use Rattle.core.proofs.dec2flt.LimbsLemmas.{value_below-zero, zeros}
use Rattle.fwd_float.proofs.Words.{word_fits}
use Rattle.fwd_float.proofs.big.Big.new.Goals as goal

pub invariant_of-big : goal.invariant_of-big
invariant_of-big c = (omega arith, λ i h. zeros 40 i)

pub multiply_add-requires : goal.multiply_add-requires
multiply_add-requires c = omega (arith, word_fits c.args.n c.ranges.n.fits, value_below-zero (replicate 40 0))

pub returns : goal.returns
returns c = omega (arith, value_below-zero (replicate 40 0))
