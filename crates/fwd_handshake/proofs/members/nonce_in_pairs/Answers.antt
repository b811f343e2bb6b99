use Rattle.std.proofs.Common.{◌≡◌, List, ℕ, Option, Some, None, IfOk, sym, subst}
use Rattle.fwd_value.specs.View.{val_of}
use Rattle.fwd_handshake.proofs.RightMessages.{nonce_found}
use Rattle.fwd_handshake.proofs.members.nonce_in_pairs.Goals as goal

pub returns-in-Some : goal.returns-in-Some
returns-in-Some c =
    subst (λ (o : Option (List ℕ)). IfOk c.copied_bytes.result (λ nonce. nonce ≡ o)) (sym (nonce_found c.in_ok-key.key c.args.options.now (Some (val_of c.in-Some.nonce.now)) c.in_ok-key.ensures c.in-Some.ensures)) c.copied_bytes.ensures

pub returns : goal.returns
returns c = sym (nonce_found c.in_ok-key.key c.args.options.now None c.in_ok-key.ensures c.in-None.ensures)
