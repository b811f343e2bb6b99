use Rattle.fwd_handshake.proofs.Written.{ping_right}
use Rattle.fwd_handshake.proofs.theorems.a_ping_is_right.Goals as goal

pub returns : goal.returns
returns c = ping_right
