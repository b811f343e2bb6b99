use Rattle.std.proofs.Common.{refl}
use Rattle.fwd_msgpack.proofs.Heads.{two_said}
use Rattle.fwd_msgpack.proofs.header.length_of_two_bytes.Goals as goal

pub returns : goal.returns
returns c = two_said c.args.bytes.now _ c.from_be_bytes.result c.in-len2-up.len_at_least c.from_be_bytes.ensures refl
