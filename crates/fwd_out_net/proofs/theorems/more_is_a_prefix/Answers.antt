use Rattle.fwd_out_net.proofs.ReplyLemmas.{more_exactly}
use Rattle.fwd_out_net.proofs.theorems.more_is_a_prefix.Goals as goal

pub returns : goal.returns
returns c = more_exactly
