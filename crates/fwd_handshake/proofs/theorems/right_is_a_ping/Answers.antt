use Rattle.std.proofs.Common.{◌≡◌, Some}
use Rattle.fwd_handshake.proofs.Through.{through}
use Rattle.fwd_handshake.proofs.Judged.{received_right, judged_right}
use Rattle.fwd_handshake.specs.Members.{salt_of}
use Rattle.fwd_handshake.proofs.RightMessages.{ping_exactly}
use Rattle.fwd_handshake.specs.declared.received.Received.TheVariants.{Right}
use Rattle.fwd_handshake.specs.Judgement.{received}
use Rattle.fwd_handshake.specs.Right.{IsPing}
use Rattle.fwd_handshake.proofs.theorems.right_is_a_ping.Goals as goal

pub returns-clause-content : goal.returns-clause-content
returns-clause-content c = λ ring nonce salt stream len.
    through (received (salt_of ring nonce) stream ≡ Right len salt) (λ v. salt_of ring nonce v ≡ Some salt) (IsPing ring nonce salt) len stream (received_right (salt_of ring nonce) stream len salt) (ping_exactly ring nonce salt)

pub returns-clause-judged : goal.returns-clause-judged
returns-clause-judged c = λ ring nonce. judged_right (salt_of ring nonce)
