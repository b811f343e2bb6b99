use Rattle.fwd_out_net.proofs.ReplyLemmas.{right_exactly}
use Rattle.fwd_out_net.proofs.theorems.right_is_the_ack.Goals as goal

pub returns : goal.returns
returns c = right_exactly
