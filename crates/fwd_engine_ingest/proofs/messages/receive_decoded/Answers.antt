use Rattle.std.proofs.Common.{◌≡◌, ◌≤◌, ◌∙◌, ℕ, List, Option, length, sym, ap, subst}
use Rattle.std.specs.Prelude.{option_copied, option_map, IfSome}
use Rattle.fwd_base.specs.Limits.{longest_tag}
use Rattle.fwd_value.specs.Limits.{nesting, LengthsFit}
use Rattle.fwd_value.specs.View.{val_of}
use Rattle.fwd_value.specs.declared.value.Value.{Value}
use Rattle.fwd_wire.specs.Fits.{ContentFits}
use Rattle.fwd_wire.specs.Message.{MessageContent, batch}
use Rattle.fwd_wire.specs.Representation.{content_of}
use Rattle.fwd_wire.specs.declared.message.Message.{Message}
use Rattle.fwd_model.specs.Acceptance.{accepts}
use Rattle.fwd_model.proofs.Actions.{stays}
use Rattle.fwd_engine_ingest.specs.Continuation.{TagIsShort}
use Rattle.fwd_engine_ingest.proofs.MessageSequence.{same_content}
use Rattle.fwd_engine_ingest.proofs.Replies.{fits_shallow}
use Rattle.fwd_engine_ingest.proofs.messages.receive_decoded.Goals as goal

pub returns-in-Nothing-clause-acts : goal.returns-in-Nothing-clause-acts
unfolding accepts
returns-in-Nothing-clause-acts g c short others h next shows = rw c.in-Nothing.is (h, shows, stays _ (next h))

pub receive_batch-requires-clause-read_back : goal.receive_batch-requires-clause-read_back
receive_batch-requires-clause-read_back g c ks lives =
    let fits = subst (λ (m : Message). ContentFits (content_of m)) c.in-Batch.is c.requires.fits in
    fits_shallow c.in-Batch.events fits.0

pub receive_batch-requires-clause-fits : goal.receive_batch-requires-clause-fits
receive_batch-requires-clause-fits g c ks lives =
    let fits = subst (λ (m : Message). ContentFits (content_of m)) c.in-Batch.is c.requires.fits in
    subst (λ (chunk : Option Value). IfSome (option_map val_of chunk) (λ v. (nesting v ≤ 63) × LengthsFit v)) (sym c.as_ref.ensures.value) fits.1

pub returns-in-Batch-clause-acts : goal.returns-in-Batch-clause-acts
returns-in-Batch-clause-acts g c short others h next shows =
    let is : content_of c.args.message ≡ batch c.in-Batch.tag c.in-Batch.events (option_map val_of c.in-Batch.chunk) = ap content_of c.in-Batch.is in
    let first = batch c.as_slice.result.now c.in-Batch.events (option_map val_of (option_copied c.as_ref.result)) in
    let same : first ≡ content_of c.args.message = (λ i. batch (c.as_slice.ensures i) c.in-Batch.events (option_map val_of (c.as_ref.ensures.value i))) ∙ sym is in
    let fits : length c.as_slice.result.now ≤ longest_tag = subst (λ (tag : List ℕ). length tag ≤ longest_tag) (sym c.as_slice.ensures) (subst TagIsShort is short) in
    same_content c.args.run.now _ _ c.receive_batch.new.parts c.args.input.0 c.args.conn.0 h next c.receive_batch.result first (content_of c.args.message) same
    (c.receive_batch.ensures.acts fits others h next shows)
