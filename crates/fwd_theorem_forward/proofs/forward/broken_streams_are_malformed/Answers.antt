use Rattle.fwd_theorem_forward.proofs.ForwardPeers.{malformed}
use Rattle.fwd_theorem_forward.proofs.forward.broken_streams_are_malformed.Goals as goal

pub returns : goal.returns
returns c before piece = malformed c.streams_are_read.ensures before piece
