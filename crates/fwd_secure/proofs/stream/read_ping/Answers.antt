use Rattle.std.proofs.Common.{arith}
use Rattle.fwd_secure.proofs.MessageLengths.{ping_short}
use Rattle.fwd_secure.proofs.stream.read_ping.Goals as goal

pub returns-clause-short : goal.returns-clause-short
returns-clause-short c = ping_short c.args.ring.now c.args.nonce.now c.args.stream.now (λ i. omega (arith, c.type_inv.stream i)) c.read_ping.result c.read_ping.ensures
