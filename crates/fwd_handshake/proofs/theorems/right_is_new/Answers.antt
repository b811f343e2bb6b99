use Rattle.fwd_handshake.proofs.Judged.{right_is_later}
use Rattle.fwd_handshake.specs.Members.{nonce_of, salt_of, host_of}
use Rattle.fwd_handshake.proofs.theorems.right_is_new.Goals as goal

pub returns-clause-helo : goal.returns-clause-helo
returns-clause-helo c = right_is_later nonce_of

pub returns-clause-ping : goal.returns-clause-ping
returns-clause-ping c = λ ring nonce. right_is_later (salt_of ring nonce)

pub returns-clause-pong : goal.returns-clause-pong
returns-clause-pong c = λ ring salt nonce. right_is_later (host_of ring salt nonce)
