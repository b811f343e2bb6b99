use Rattle.fwd_value.specs.Val.{list, no_vals, val}
use Rattle.fwd_handshake.proofs.Judged.{judged_wrong}
use Rattle.fwd_handshake.specs.Members.{host_of}
use Rattle.fwd_handshake.proofs.RightMessages.{own_host_none}
use Rattle.fwd_handshake.proofs.theorems.own_host_is_refused.Goals as goal

pub returns : goal.returns
returns c = λ ring salt nonce stream len word accepted reason host digest front own.
    judged_wrong (host_of ring salt nonce) stream (list (val word (val accepted (val reason (val host (val digest no_vals)))))) len front (own_host_none ring salt nonce word accepted reason host digest own)
