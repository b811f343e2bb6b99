use Rattle.std.proofs.Common.{arith}
use Rattle.fwd_engine_chunks.proofs.EncodingLemmas.{encoded_more, events_more, too_long}
use Rattle.fwd_engine_chunks.proofs.encoding.encoding.Goals as goal

pub returns-then-len-gt-LARGEST_BATCH : goal.returns-then-len-gt-LARGEST_BATCH
returns-then-len-gt-LARGEST_BATCH c =
    let items = c.as_slice-event-items.result.now in
    let i = c.loop-event.event-index in
    let e = c.event-item.result in
    let more = encoded_more items i e c.loop-event.bytes c.write_event.new.out c.loop-event-test.true c.event-item.is c.loop-event.invariant.encoding c.in_ok-write_event.ensures.ok in
    record {
      encoding = too_long c.args.events.now items i e c.write_event.new.out c.as_slice-event-items.ensures c.loop-event-test.true c.event-item.is more (omega (arith, c.if-len-gt-LARGEST_BATCH.true, c.len.ensures));
      are = tt;
    }

pub loop-event-preserved : goal.loop-event-preserved
loop-event-preserved c =
    let items = c.as_slice-event-items.result.now in
    let i = c.loop-event.event-index in
    let e = c.event-item.result in
    record {
      encoding = encoded_more items i e c.loop-event.bytes c.write_event.new.out c.loop-event-test.true c.event-item.is c.loop-event.invariant.encoding c.in_ok-write_event.ensures.ok;
      short = omega (arith, c.if-len-gt-LARGEST_BATCH.false, c.len.ensures);
      are = events_more items i e c.loop-event.bytes c.write_event.new.out c.loop-event-test.true c.event-item.is c.loop-event.invariant.are c.in_ok-write_event.ensures.are c.in_ok-write_event.ensures.ok;
    }
