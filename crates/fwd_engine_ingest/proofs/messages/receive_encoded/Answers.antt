use Rattle.std.proofs.Common.{◌≡◌, ◌≤◌, ◌∙◌, ℕ, List, Option, length, sym, ap, subst}
use Rattle.std.specs.Prelude.{option_copied, option_map, IfSome}
use Rattle.fwd_base.specs.Limits.{longest_tag}
use Rattle.fwd_value.specs.Limits.{nesting, LengthsFit}
use Rattle.fwd_value.specs.View.{val_of}
use Rattle.fwd_value.specs.declared.value.Value.{Value}
use Rattle.fwd_event.specs.EventPrefix.{events_in}
use Rattle.fwd_wire.specs.Message.{MessageContent, batch}
use Rattle.fwd_in_forward.specs.EncodedMessage.{encoded_content}
use Rattle.fwd_engine_ingest.proofs.MessageSequence.{same_content}
use Rattle.fwd_engine_ingest.proofs.messages.receive_encoded.Goals as goal

pub receive_batch-requires-clause-read_back : goal.receive_batch-requires-clause-read_back
receive_batch-requires-clause-read_back g c ks lives = c.requires.stored

pub receive_batch-requires-clause-fits : goal.receive_batch-requires-clause-fits
receive_batch-requires-clause-fits g c ks lives =
    subst (λ (chunk : Option Value). IfSome (option_map val_of chunk) (λ v. (nesting v ≤ 63) × LengthsFit v)) (sym c.as_ref.ensures.value) c.requires.fits.1

pub returns-clause-acts : goal.returns-clause-acts
returns-clause-acts g c short others h next shows =
    let events = (events_in c.args.message.events).0 in
    let first = batch c.as_slice.result.now events (option_map val_of (option_copied c.as_ref.result)) in
    let same : first ≡ encoded_content c.args.message = λ i. batch (c.as_slice.ensures i) events (option_map val_of (c.as_ref.ensures.value i)) in
    let fits : length c.as_slice.result.now ≤ longest_tag = subst (λ (tag : List ℕ). length tag ≤ longest_tag) (sym c.as_slice.ensures) short in
    same_content c.args.run.now _ _ c.receive_batch.new.parts c.args.input.0 c.args.conn.0 h next c.receive_batch.result first (encoded_content c.args.message) same
    (c.receive_batch.ensures.acts fits others h next shows)
