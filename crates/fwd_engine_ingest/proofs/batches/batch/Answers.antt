use Rattle.std.proofs.Common.{◌≡◌}
use Rattle.fwd_filters.specs.FilterFunction.{filtered}
use Rattle.fwd_model.specs.Settings.{input_at, tag_at}
use Rattle.fwd_model.specs.Batches.{events_of}
use Rattle.fwd_engine_ingest.proofs.LineBatches.{filter_is, batch_shallow}
use Rattle.fwd_engine_ingest.proofs.batches.batch.Goals as goal

pub returns-clause-is : goal.returns-clause-is
returns-clause-is g c =
    let s = c.args.run.now in
    let same : filtered c.filters.result.now c.tag_or.result.now c.in_ok-events.events ≡ filtered s.filters (tag_at s c.args.input.0) (events_of (input_at s c.args.input.0) c.args.now c.args.lines) =
    λ i. filtered (c.filters.ensures i) (c.tag_or.ensures.is i) (c.in_ok-events.ensures i) in
    filter_is _ _ _ _ c.filter.result c.filter.ensures same

pub returns-clause-shallow : goal.returns-clause-shallow
returns-clause-shallow g c =
    let s = c.args.run.now in
    let same : filtered c.filters.result.now c.tag_or.result.now c.in_ok-events.events ≡ filtered s.filters (tag_at s c.args.input.0) (events_of (input_at s c.args.input.0) c.args.now c.args.lines) =
    λ i. filtered (c.filters.ensures i) (c.tag_or.ensures.is i) (c.in_ok-events.ensures i) in
    batch_shallow s.filters (tag_at s c.args.input.0) (input_at s c.args.input.0) c.args.now c.args.lines c.filter.result
    (filter_is _ _ _ _ c.filter.result c.filter.ensures same)
