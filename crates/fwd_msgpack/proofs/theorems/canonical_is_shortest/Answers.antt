use Rattle.fwd_msgpack.proofs.NoneShorter.{least}
use Rattle.fwd_msgpack.proofs.theorems.canonical_is_shortest.Goals as goal

pub returns : goal.returns
returns c = least
