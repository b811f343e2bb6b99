use Rattle.std.proofs.Common.{subst, arith}
use Rattle.std.proofs.lemmas.List.{take_all, take_more}
use Rattle.std.proofs.lemmas.List.Elements.{All-push}
use Rattle.fwd_event.specs.Event.{EventFits}
use Rattle.fwd_test_outputs.proofs.payloads.can_write_all.Goals as goal

pub loop-event-preserved : goal.loop-event-preserved
loop-event-preserved c =
    rw (take_more c.as_slice-event-items.result.now c.loop-event.event-index c.event-item.result c.loop-event-test.true)
    (All-push EventFits _ _ c.loop-event.invariant (subst EventFits c.event-item.is (c.can_write.ensures.0 c.if-not-can_write.false)))

pub returns : goal.returns
returns c = λ _.
    rw (← c.as_slice-event-items.ensures)
    (rw (take_all c.loop-event.event-index c.as_slice-event-items.result.now (omega (arith, c.loop-event-test.false))) at c.loop-event.invariant)
