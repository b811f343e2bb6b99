use Rattle.std.proofs.Common.{◌≡◌, Some, List, [], ◌∙◌, refl, sym, ap, subst}
use Rattle.fwd_event.specs.declared.event.Event.{Event}
use Rattle.fwd_filters.specs.declared.filter_step.FilterStep.{FilterStep}
use Rattle.fwd_filters.specs.FilterRelation.{AreMatching}
use Rattle.fwd_filters.specs.FilterFunction.{filtered}
use Rattle.fwd_model.specs.Settings.{input_at, tag_at}
use Rattle.fwd_model.specs.Batches.{events_of}
use Rattle.fwd_frames.specs.declared.line.Line.{Line}
use Rattle.fwd_engine_chunks.specs.BatchOutcome.{HoldsEvents}
use Rattle.fwd_engine_ingest.proofs.LineBatches.{held_is, no_events, unfiltered}
use Rattle.fwd_engine_ingest.proofs.batches.encoded_batch.Goals as goal

pub returns-then-are_idle : goal.returns-then-are_idle
returns-then-are_idle g c =
    let s = c.args.run.now in
    let k = c.args.input.0 in
    let none = c.are_idle.ensures.0 c.if-are_idle.true in
    let steps = c.as_slice.ensures ∙ c.filters.ensures in
    let idle : AreMatching (tag_at s k) s.filters [] = subst (λ (all : List FilterStep). AreMatching (tag_at s k) all []) steps (subst (λ tag. AreMatching tag c.as_slice.result.now []) c.tag_or.ensures.is none) in
    let is : Some c.in-Some.set.now ≡ input_at s k = c.in-Some.ensures in
    let same : events_of (Some c.in-Some.set.now) c.args.now c.args.lines ≡ filtered s.filters (tag_at s k) (events_of (input_at s k) c.args.now c.args.lines) =
    ap (λ i. events_of i c.args.now c.args.lines) is ∙ unfiltered s.filters (tag_at s k) (events_of (input_at s k) c.args.now c.args.lines) idle in
    held_is _ _ c.encode_lines.result c.encode_lines.ensures same

pub returns-then-is_empty : goal.returns-then-is_empty
returns-then-is_empty g c =
    let s = c.args.run.now in
    let k = c.args.input.0 in
    let none : c.args.lines ≡ [] = c.is_empty.ensures.0 c.if-is_empty.true in
    let same : [] ≡ filtered s.filters (tag_at s k) (events_of (input_at s k) c.args.now c.args.lines) = no_events s.filters (tag_at s k) (input_at s k) c.args.now ∙ ap (λ (lines : List Line). filtered s.filters (tag_at s k) (events_of (input_at s k) c.args.now lines)) (sym none) in
    subst (λ (es : List Event). HoldsEvents es c.of_encodings.result) same (c.of_encodings.ensures [] refl c.new.ensures c.new.ensures)
