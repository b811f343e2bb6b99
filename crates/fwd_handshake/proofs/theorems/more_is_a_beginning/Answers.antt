use Rattle.fwd_handshake.proofs.Judged.{judged_more}
use Rattle.fwd_handshake.specs.Members.{nonce_of, salt_of, host_of}
use Rattle.fwd_handshake.proofs.theorems.more_is_a_beginning.Goals as goal

pub returns-clause-helo : goal.returns-clause-helo
returns-clause-helo c = judged_more nonce_of

pub returns-clause-ping : goal.returns-clause-ping
returns-clause-ping c = λ ring nonce. judged_more (salt_of ring nonce)

pub returns-clause-pong : goal.returns-clause-pong
returns-clause-pong c = λ ring salt nonce. judged_more (host_of ring salt nonce)
