use Rattle.fwd_out_net.proofs.Sizes.{entries_short}
use Rattle.fwd_out_net.proofs.theorems.entries_are_short.Goals as goal

pub returns : goal.returns
returns c = entries_short
