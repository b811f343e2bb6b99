use Rattle.fwd_out_net.proofs.ReplyLemmas.{never_fatal}
use Rattle.fwd_out_net.proofs.theorems.none_is_fatal.Goals as goal

pub returns : goal.returns
returns c = never_fatal
