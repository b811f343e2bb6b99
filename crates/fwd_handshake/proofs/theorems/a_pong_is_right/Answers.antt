use Rattle.fwd_handshake.proofs.Written.{pong_right}
use Rattle.fwd_handshake.proofs.theorems.a_pong_is_right.Goals as goal

pub returns : goal.returns
returns c = pong_right
