use Rattle.std.proofs.Common.{◌++◌, List, ℕ, sym, ap, ◌∙◌}
use Rattle.fwd_value.specs.View.{val_of}
use Rattle.fwd_msgpack.specs.Canonical.{canonical}
use Rattle.fwd_wire.proofs.EncodedParts.{ack_parts}
use Rattle.fwd_wire.proofs.ack.ack_bytes.Goals as goal

pub returns : goal.returns
returns c = c.in_ok-encode.ensures.ok ∙ ap (λ (o : List ℕ). o ++ canonical (val_of c.args.chunk.now)) c.in_ok-out.ensures ∙ sym (ack_parts (val_of c.args.chunk.now))
