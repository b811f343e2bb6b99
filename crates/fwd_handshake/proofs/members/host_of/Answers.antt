use Rattle.std.proofs.Common.{◌≡◌, List, ℕ, Option, IfOk, subst}
use Rattle.fwd_handshake.proofs.RightMessages.{host_found}
use Rattle.fwd_handshake.proofs.members.host_of.Goals as goal

pub returns : goal.returns
returns c =
    subst (λ (o : Option (List ℕ)). IfOk c.copied_if.result (λ host. host ≡ o))
    (host_found c.args.ring.now c.args.salt.now c.args.nonce.now c.word-item.result c.accepted-item.result c.host-item.result c.digest-item.result c.args.members.now c.in-len5.len_at_least c.in-len5.len_below
    c.in_ok-wanted.wanted c.is_accepted.result c.word-item.is c.accepted-item.is c.host-item.is c.digest-item.is c.in_ok-wanted.ensures c.is_accepted.ensures)
    c.copied_if.ensures
