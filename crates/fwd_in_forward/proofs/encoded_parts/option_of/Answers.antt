use Rattle.std.proofs.Common.{refl}
use Rattle.fwd_in_forward.proofs.PartsRead.{map_option}
use Rattle.fwd_in_forward.proofs.encoded_parts.option_of.Goals as goal

pub returns-then-nest_within : goal.returns-then-nest_within
returns-then-nest_within c = rw c.in-Map.is (map_option c.in-Map.pairs (c.if-nest_within.ensures.0 refl))
