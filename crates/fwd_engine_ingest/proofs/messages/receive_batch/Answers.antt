use Rattle.std.proofs.Common.{◌≡◌, List, ℕ, Option, ap, ◌∙◌, refl}
use Rattle.std.specs.Prelude.{option_copied, option_map, unwrap_or}
use Rattle.fwd_value.specs.Val.{Val}
use Rattle.fwd_value.specs.View.{val_of}
use Rattle.fwd_event.specs.declared.event.Event.{Event}
use Rattle.fwd_filters.specs.FilterFunction.{filtered}
use Rattle.fwd_wire.specs.Message.{batch}
use Rattle.fwd_model.specs.Settings.{own_tag}
use Rattle.fwd_model.specs.Messages.{reply_of}
use Rattle.fwd_model.specs.InputActions.{acknowledges}
use Rattle.fwd_model.proofs.Actions.{stays}
use Rattle.fwd_engine_chunks.proofs.EncodingLemmas.{short_bytes}
use Rattle.fwd_engine_ingest.specs.MessageEvents.{message_events}
use Rattle.fwd_engine_ingest.proofs.Replies.{went_end}
use Rattle.fwd_engine_ingest.proofs.LineBatches.{batch_with}
use Rattle.fwd_engine_ingest.proofs.MessageSequence.{accepted_began, accepted_on, batch_heard}
use Rattle.fwd_engine_ingest.proofs.messages.receive_batch.Goals as goal

pub returns-in_err-asked-clause-acts : goal.returns-in_err-asked-clause-acts
returns-in_err-asked-clause-acts g c short others h next shows = went_end c.args.run.now _ _ next c.from_residual.result c.from_residual.ensures.0 (_, stays _ _)

pub returns-in_err-batch-clause-acts : goal.returns-in_err-batch-clause-acts
returns-in_err-batch-clause-acts g c short others h next shows = went_end c.args.run.now _ _ next c.from_residual-in_err-batch.result c.from_residual-in_err-batch.ensures.0 (_, stays _ _)

pub accept_encoded-requires-clause-short : goal.accept_encoded-requires-clause-short
accept_encoded-requires-clause-short g c = short_bytes _ _ c.in_ok-batch.ensures

pub returns-in_err-taken-clause-acts : goal.returns-in_err-taken-clause-acts
returns-in_err-taken-clause-acts g c short others h next shows =
    let s = c.args.run.now in
    let k = c.args.input.0 in
    let own = c.tag_or-own.result.now in
    let es = message_events c.args.events in
    let left : List Event = filtered s.filters own es in
    let chunk : Option Val = option_map val_of (option_copied c.args.chunk) in
    let asked = reply_of (batch c.args.tag.now es chunk) in
    batch_heard s _ _ _ k c.args.conn.0 h next c.from_residual-in_err-taken.result c.args.tag.now own es chunk asked c.tag_or-own.ensures.is refl
    (went_end s _ _ next c.from_residual-in_err-taken.result c.from_residual-in_err-taken.ensures.0
    (accepted_began s (batch_with k own left) (batch_with k own left) h (acknowledges c.args.conn.0 asked next) refl (c.in_err-taken.ensures.acts left c.in_ok-batch.ensures (record others { loop = g.L.Loop.call_log c.args.outside.now }) h shows)))

pub returns-clause-acts : goal.returns-clause-acts
returns-clause-acts g c short others h next shows =
    let s = c.args.run.now in
    let k = c.args.input.0 in
    let own = c.tag_or-own.result.now in
    let es = message_events c.args.events in
    let left : List Event = filtered s.filters own es in
    let chunk : Option Val = option_map val_of (option_copied c.args.chunk) in
    let asked : option_copied c.as_ref.result ≡ reply_of (batch c.args.tag.now es chunk) = c.as_ref.ensures.value ∙ c.in_ok-asked.ensures c.args.tag.now es in
    batch_heard s _ _ _ k c.args.conn.0 h next c.answer.result c.args.tag.now own es chunk (option_copied c.as_ref.result) c.tag_or-own.ensures.is asked
    (accepted_on s _ (batch_with k own left) (batch_with k own left) h c.accept_encoded.new.parts c.answer.new.parts c.in_ok-taken.taken c.args.conn.0 (option_copied c.as_ref.result) next c.answer.result refl
    (c.in_ok-taken.ensures.acts left c.in_ok-batch.ensures (record others { loop = g.L.Loop.call_log c.args.outside.now }) h shows)
    (λ now shown. c.answer.ensures.acts s (record others { disk = g.D.Disk.call_log c.accept_encoded.new.disk }) now next shown))
