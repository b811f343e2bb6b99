use Rattle.std.proofs.Common.{refl}
use Rattle.fwd_msgpack.proofs.Heads.{four_said}
use Rattle.fwd_msgpack.proofs.header.length_of_four_bytes.Goals as goal

pub returns : goal.returns
returns c = four_said c.args.bytes.now _ c.from_be_bytes.result c.in-len4-up.len_at_least c.from_be_bytes.ensures refl
