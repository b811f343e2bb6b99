use Rattle.std.proofs.Common.{◌≡◌, List, ℕ, Option, IfOk, subst}
use Rattle.fwd_handshake.proofs.RightMessages.{salt_found}
use Rattle.fwd_handshake.proofs.members.salt_of.Goals as goal

pub returns : goal.returns
returns c =
    subst (λ (o : Option (List ℕ)). IfOk c.copied_if.result (λ salt. salt ≡ o))
    (salt_found c.args.ring.now c.args.nonce.now c.word-item.result c.host-item.result c.salt-item.result c.digest-item.result c.args.members.now c.in-len6.len_at_least c.in-len6.len_below
    c.in_ok-wanted.wanted c.is_shown.result c.word-item.is c.host-item.is c.salt-item.is c.digest-item.is c.in_ok-wanted.ensures c.is_shown.ensures)
    c.copied_if.ensures
