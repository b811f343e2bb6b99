use Rattle.std.proofs.Common.{arith}
use Rattle.fwd_secure.proofs.MessageLengths.{helo_short}
use Rattle.fwd_secure.proofs.stream.read_helo.Goals as goal

pub returns-clause-short : goal.returns-clause-short
returns-clause-short c = helo_short c.args.stream.now (λ i. omega (arith, c.type_inv.stream i)) c.read_helo.result c.read_helo.ensures
