use Rattle.std.proofs.Common.{arith, add-one}
use Rattle.fwd_payload.proofs.EncodedSizes.{events_size, events_fit}
use Rattle.fwd_payload.proofs.sizes.fits_every_output.Goals as goal

pub loop-event-preserved : goal.loop-event-preserved
loop-event-preserved c =
    let items = c.as_slice-event-items.result.now in
    let i = c.loop-event.event-index in
    let more = events_size items i c.event-item.result c.loop-event-test.true c.event-item.is in
    record {
      fits = rw add-one (events_fit items i c.event-item.result c.loop-event-test.true c.event-item.is c.loop-event.invariant.fits (c.can_write.ensures.0 c.if-not-can_write.false));
      size = rw add-one (omega (arith, more, c.loop-event.invariant.size, c.event_size.ensures, c.saturating_add-total.ensures));
    }
