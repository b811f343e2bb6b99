use Rattle.std.proofs.Common.{get_or, refl}
use Rattle.fwd_msgpack.proofs.Heads.{one_said}
use Rattle.fwd_msgpack.proofs.header.length_of_one_byte.Goals as goal

pub returns : goal.returns
returns c = one_said c.args.bytes.now _ (get_or c.args.bytes.now 0 0) c.in-len1-up.len_at_least refl refl
