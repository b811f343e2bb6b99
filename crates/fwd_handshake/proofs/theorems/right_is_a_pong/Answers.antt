use Rattle.std.proofs.Common.{◌≡◌, Some}
use Rattle.fwd_handshake.proofs.Through.{through}
use Rattle.fwd_handshake.proofs.Judged.{received_right, judged_right}
use Rattle.fwd_handshake.specs.Members.{host_of}
use Rattle.fwd_handshake.proofs.RightMessages.{pong_exactly}
use Rattle.fwd_handshake.specs.declared.received.Received.TheVariants.{Right}
use Rattle.fwd_handshake.specs.Judgement.{received}
use Rattle.fwd_handshake.specs.Right.{IsPong}
use Rattle.fwd_handshake.proofs.theorems.right_is_a_pong.Goals as goal

pub returns-clause-content : goal.returns-clause-content
returns-clause-content c = λ ring salt nonce host stream len.
    through (received (host_of ring salt nonce) stream ≡ Right len host) (λ v. host_of ring salt nonce v ≡ Some host) (IsPong ring salt nonce host) len stream (received_right (host_of ring salt nonce) stream len host) (pong_exactly ring salt nonce host)

pub returns-clause-judged : goal.returns-clause-judged
returns-clause-judged c = λ ring salt nonce. judged_right (host_of ring salt nonce)
