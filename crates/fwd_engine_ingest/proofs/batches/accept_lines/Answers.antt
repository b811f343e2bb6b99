use Rattle.std.proofs.Common.{◌≡◌, ℕ, List, None, refl}
use Rattle.fwd_event.specs.declared.event.Event.{Event}
use Rattle.fwd_filters.specs.FilterFunction.{filtered}
use Rattle.fwd_model.specs.Settings.{input_at, tag_at}
use Rattle.fwd_model.specs.Batches.{batch_of, events_of}
use Rattle.fwd_model.proofs.Actions.{stays}
use Rattle.fwd_engine_chunks.proofs.EncodingLemmas.{short_bytes}
use Rattle.fwd_engine_ingest.proofs.StreamFactSteps.{acts_end}
use Rattle.fwd_engine_ingest.proofs.LineBatches.{batch_with, batch_is, takes_did, takes_began}
use Rattle.fwd_engine_ingest.proofs.batches.accept_lines.Goals as goal

pub returns-in_err-batch-clause-acts : goal.returns-in_err-batch-clause-acts
returns-in_err-batch-clause-acts g c others h shows = acts_end c.args.run.now _ _ c.from_residual.result c.from_residual.ensures.0 (_, stays _ _)

pub returns-in_err-accept_encoded-clause-acts : goal.returns-in_err-accept_encoded-clause-acts
returns-in_err-accept_encoded-clause-acts g c others h shows =
    let s = c.args.run.now in
    let k = c.args.input.0 in
    let events : List Event = filtered s.filters (tag_at s k) (events_of (input_at s k) c.clock-now.result c.args.lines) in
    let same : batch_with k c.tag_or.result.now events ≡ batch_of s h k c.args.lines =
    batch_is s h k c.clock-now.result c.args.lines c.tag_or.result.now events (c.clock-now.ensures s h None shows.state) c.tag_or.ensures.is refl in
    acts_end s _ _ c.from_residual-in_err-accept_encoded.result c.from_residual-in_err-accept_encoded.ensures.0
    (takes_began s (batch_with k c.tag_or.result.now events) (batch_of s h k c.args.lines) h same (c.in_err-accept_encoded.ensures.acts events c.in_ok-batch.ensures others h shows))

pub returns-clause-acts : goal.returns-clause-acts
returns-clause-acts g c others h shows =
    let s = c.args.run.now in
    let k = c.args.input.0 in
    let events : List Event = filtered s.filters (tag_at s k) (events_of (input_at s k) c.clock-now.result c.args.lines) in
    let same : batch_with k c.tag_or.result.now events ≡ batch_of s h k c.args.lines =
    batch_is s h k c.clock-now.result c.args.lines c.tag_or.result.now events (c.clock-now.ensures s h None shows.state) c.tag_or.ensures.is refl in
    takes_did s (batch_with k c.tag_or.result.now events) (batch_of s h k c.args.lines) h c.accept_encoded.new.parts c.in_ok-accept_encoded.field-0 same (c.in_ok-accept_encoded.ensures.acts events c.in_ok-batch.ensures others h shows)

pub accept_encoded-requires-clause-short : goal.accept_encoded-requires-clause-short
accept_encoded-requires-clause-short g c = short_bytes _ _ c.in_ok-batch.ensures
