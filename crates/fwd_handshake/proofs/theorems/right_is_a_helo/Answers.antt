use Rattle.std.proofs.Common.{◌≡◌, Some}
use Rattle.fwd_handshake.proofs.Through.{through}
use Rattle.fwd_handshake.proofs.Judged.{received_right, judged_right}
use Rattle.fwd_handshake.specs.Members.{nonce_of}
use Rattle.fwd_handshake.proofs.RightMessages.{helo_exactly}
use Rattle.fwd_handshake.specs.declared.received.Received.TheVariants.{Right}
use Rattle.fwd_handshake.specs.Judgement.{received}
use Rattle.fwd_handshake.specs.Right.{IsHelo}
use Rattle.fwd_handshake.proofs.theorems.right_is_a_helo.Goals as goal

pub returns-clause-content : goal.returns-clause-content
returns-clause-content c = λ nonce stream len.
    through (received nonce_of stream ≡ Right len nonce) (λ v. nonce_of v ≡ Some nonce) (IsHelo nonce) len stream (received_right nonce_of stream len nonce) (helo_exactly nonce)

pub returns-clause-judged : goal.returns-clause-judged
returns-clause-judged c = judged_right nonce_of
