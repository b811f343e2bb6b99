use Rattle.fwd_msgpack.proofs.PrefixFree.{encodings_are_prefix_free}
use Rattle.fwd_msgpack.proofs.theorems.encodings_are_prefix_free.Goals as goal

pub returns : goal.returns
returns c = encodings_are_prefix_free
