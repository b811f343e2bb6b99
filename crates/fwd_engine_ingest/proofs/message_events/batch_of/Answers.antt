use Rattle.std.proofs.Common.{◌≡◌, ◌∙◌, ℕ, List, [], true, sym, ap, subst}
use Rattle.fwd_event.specs.declared.event.Event.{Event}
use Rattle.fwd_event.specs.Event.{AreEvents}
use Rattle.fwd_event.specs.EventPrefix.{events_in}
use Rattle.fwd_filters.specs.declared.filter_step.FilterStep.{FilterStep}
use Rattle.fwd_filters.specs.FilterFunction.{filtered}
use Rattle.fwd_filters.specs.FilterRelation.{AreMatching}
use Rattle.fwd_theorem_depth.specs.Shallow.{are_shallow}
use Rattle.fwd_engine_chunks.specs.BatchOutcome.{HoldsEvents}
use Rattle.fwd_engine_ingest.specs.MessageEvents.{AreReadBack, message_events}
use Rattle.fwd_engine_ingest.specs.declared.message_events.MessageEvents.{MessageEvents}
use Rattle.fwd_engine_ingest.proofs.LineBatches.{held_is, unfiltered}
use Rattle.fwd_engine_ingest.proofs.MessageBatches.{ReadBack, read_back}
use Rattle.fwd_engine_ingest.proofs.Replies.{fits_shallow}
use Rattle.fwd_engine_ingest.proofs.message_events.batch_of.Goals as goal

pub returns-then-are_idle : goal.returns-then-are_idle
returns-then-are_idle g c =
    let filters = c.args.run.now.filters in
    let tag = c.args.tag.now in
    let es = (events_in c.in-Encoded.bytes).0 in
    let back : ReadBack c.in-Encoded.count c.in-Encoded.bytes es = read_back c.in-Encoded.count c.in-Encoded.bytes c.encodings_are_events.ensures c.all_bytes_are_events.ensures (subst AreReadBack c.in-Encoded.is c.requires) in
    let idle : AreMatching tag filters [] = subst (λ (steps : List FilterStep). AreMatching tag steps []) (c.as_slice.ensures ∙ c.filters.ensures) (c.are_idle.ensures.0 c.if-are_idle.true) in
    let same : es ≡ filtered filters tag (message_events c.args.events) = unfiltered filters tag es idle ∙ ap (λ (events : MessageEvents). filtered filters tag (message_events events)) (sym c.in-Encoded.is) in
    subst (λ (events : List Event). HoldsEvents events c.of_encodings.result) same (c.of_encodings.ensures es back.count back.encoded back.are)

pub filtered_batch-requires-in-Encoded-after_bounds : goal.filtered_batch-requires-in-Encoded-after_bounds
filtered_batch-requires-in-Encoded-after_bounds g c ks lives =
    let es = (events_in c.in-Encoded.bytes).0 in
    let back : ReadBack c.in-Encoded.count c.in-Encoded.bytes es = read_back c.in-Encoded.count c.in-Encoded.bytes c.encodings_are_events.ensures c.all_bytes_are_events.ensures (subst AreReadBack c.in-Encoded.is c.requires) in
    let is = c.in_ok-events-in-Encoded.ensures es (subst (AreEvents es) (sym c.as_slice-in-Encoded.ensures) back.are) in
    ap are_shallow is ∙ fits_shallow es back.fit

pub returns-in_ok-events-in-Encoded : goal.returns-in_ok-events-in-Encoded
returns-in_ok-events-in-Encoded g c =
    let filters = c.args.run.now.filters in
    let tag = c.args.tag.now in
    let es = (events_in c.in-Encoded.bytes).0 in
    let back : ReadBack c.in-Encoded.count c.in-Encoded.bytes es = read_back c.in-Encoded.count c.in-Encoded.bytes c.encodings_are_events.ensures c.all_bytes_are_events.ensures (subst AreReadBack c.in-Encoded.is c.requires) in
    let is = c.in_ok-events-in-Encoded.ensures es (subst (AreEvents es) (sym c.as_slice-in-Encoded.ensures) back.are) in
    let same = ap (λ (events : List Event). filtered filters tag events) is ∙ ap (λ (events : MessageEvents). filtered filters tag (message_events events)) (sym c.in-Encoded.is) in
    held_is _ _ c.filtered_batch-in-Encoded.result c.filtered_batch-in-Encoded.ensures same
