use Rattle.fwd_msgpack.proofs.Encodable.{fits}
use Rattle.fwd_msgpack.proofs.CanonicalEncodes.{canonical_encodes}
use Rattle.fwd_msgpack.proofs.theorems.canonical_is_encoding.Goals as goal

pub returns : goal.returns
returns c = λ v range lengths. canonical_encodes v (fits v range lengths)
