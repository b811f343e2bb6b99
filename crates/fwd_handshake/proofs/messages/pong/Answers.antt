use Rattle.std.proofs.Common.{◌≡◌, ◌∙◌, List, ℕ, IfOk, length, ap, subst, arith}
use Rattle.fwd_handshake.specs.Digest.{key_digest}
use Rattle.fwd_handshake.specs.Messages.{pong_with}
use Rattle.fwd_handshake.proofs.Parts.{digest_length}
use Rattle.fwd_handshake.proofs.messages.pong.Goals as goal

pub pong_with-requires-clause-digest : goal.pong_with-requires-clause-digest
pong_with-requires-clause-digest c =
    let is = c.as_slice-digest_text.ensures ∙ c.in_ok-digest.ensures in
    omega (arith, ap length is, digest_length c.args.ring.now.key c.args.salt.now c.as_slice-host.result.now c.args.nonce.now)

pub returns : goal.returns
returns c =
    let ring = c.args.ring.now in
    let host = c.as_slice-host.result.now in
    let is = c.as_slice-digest_text.ensures ∙ c.in_ok-digest.ensures in
    let same = ap (λ (d : List ℕ). pong_with host d) is ∙ ap (λ (h : List ℕ). pong_with h (key_digest ring.key c.args.salt.now h c.args.nonce.now)) c.as_slice-host.ensures in
    subst (λ (t : List ℕ). IfOk c.pong_with.result (λ bytes. bytes ≡ t)) same c.pong_with.ensures
