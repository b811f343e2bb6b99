use Rattle.fwd_handshake.proofs.Written.{helo_right}
use Rattle.fwd_handshake.proofs.theorems.a_helo_is_right.Goals as goal

pub returns : goal.returns
returns c = helo_right
