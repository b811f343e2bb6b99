use Rattle.fwd_theorem_forward.proofs.ForwardPeers.{sends_message}
use Rattle.fwd_theorem_forward.proofs.forward.forward_flushes_send_messages.Goals as goal

pub returns : goal.returns
returns c s h r output host port ack whole_time at is = sends_message c.right_is_the_ack.ensures c.none_is_fatal.ensures s h r output host port ack whole_time at is
