use Rattle.fwd_theorem_forward.proofs.ForwardPeers.{asks_for}
use Rattle.fwd_theorem_forward.proofs.forward.messages_ask_for_their_chunk.Goals as goal

pub returns : goal.returns
returns c m reply = asks_for m reply
