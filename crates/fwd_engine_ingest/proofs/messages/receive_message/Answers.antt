use Rattle.std.proofs.Common.{◌≡◌, sym, ap, subst}
use Rattle.fwd_wire.specs.Fits.{ContentFits}
use Rattle.fwd_wire.specs.Representation.{content_of}
use Rattle.fwd_in_forward.specs.EncodedMessage.{encoded_content}
use Rattle.fwd_in_forward.specs.Received.{received_content, KeepsEncodings}
use Rattle.fwd_in_forward.specs.declared.received.Received.{Received}
use Rattle.fwd_engine_ingest.specs.Continuation.{TagIsShort}
use Rattle.fwd_engine_ingest.proofs.MessageSequence.{same_content}
use Rattle.fwd_engine_ingest.proofs.messages.receive_message.Goals as goal

pub receive_decoded-requires-clause-fits : goal.receive_decoded-requires-clause-fits
receive_decoded-requires-clause-fits g c ks lives = subst (λ (m : Received). ContentFits (received_content m)) c.in-Decoded.is c.requires.fits

pub returns-in-Decoded-clause-acts : goal.returns-in-Decoded-clause-acts
returns-in-Decoded-clause-acts g c short others h next shows =
    let is : received_content c.args.message ≡ content_of c.in-Decoded.decoded = ap received_content c.in-Decoded.is in
    same_content c.args.run.now _ _ c.receive_decoded.new.parts c.args.input.0 c.args.conn.0 h next c.receive_decoded.result (content_of c.in-Decoded.decoded) (received_content c.args.message) (sym is)
    (c.receive_decoded.ensures.acts (subst TagIsShort is short) others h next shows)

pub receive_encoded-requires-clause-fits : goal.receive_encoded-requires-clause-fits
receive_encoded-requires-clause-fits g c ks lives = subst (λ (m : Received). ContentFits (received_content m)) c.in-Encoded.is c.requires.fits

pub receive_encoded-requires-clause-stored : goal.receive_encoded-requires-clause-stored
receive_encoded-requires-clause-stored g c ks lives = subst KeepsEncodings c.in-Encoded.is c.requires.encodings

pub returns-in-Encoded-clause-acts : goal.returns-in-Encoded-clause-acts
returns-in-Encoded-clause-acts g c short others h next shows =
    let is : received_content c.args.message ≡ encoded_content c.in-Encoded.encoded = ap received_content c.in-Encoded.is in
    same_content c.args.run.now _ _ c.receive_encoded.new.parts c.args.input.0 c.args.conn.0 h next c.receive_encoded.result (encoded_content c.in-Encoded.encoded) (received_content c.args.message) (sym is)
    (c.receive_encoded.ensures.acts (subst TagIsShort is short) others h next shows)
