use Rattle.std.proofs.Common.{arith}
use Rattle.fwd_secure.proofs.stream.are_below_256.Goals as goal

pub returns : goal.returns
returns c = λ i. omega (arith, c.type_inv.bytes i)
