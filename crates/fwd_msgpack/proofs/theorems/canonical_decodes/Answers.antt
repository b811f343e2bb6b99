use Rattle.std.proofs.Common.{length, refl, arith}
use Rattle.std.proofs.lemmas.List.{take_at, length-append}
use Rattle.fwd_msgpack.specs.Canonical.{canonical}
use Rattle.fwd_msgpack.proofs.Encodable.{fits}
use Rattle.fwd_msgpack.proofs.CanonicalEncodes.{canonical_encodes}
use Rattle.fwd_msgpack.proofs.theorems.canonical_decodes.Goals as goal

pub returns : goal.returns
returns c = λ v rest range lengths nested. (omega (arith, length-append (canonical v) rest), rw (take_at (canonical v) rest (length (canonical v)) refl) (canonical_encodes v (fits v range lengths)), nested)
