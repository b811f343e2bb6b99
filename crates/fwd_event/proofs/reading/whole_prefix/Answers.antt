use Rattle.std.proofs.Common.{arith}
use Rattle.std.proofs.lemmas.List.{length-drop}
use Rattle.fwd_event.proofs.EventLists.{one_more}
use Rattle.fwd_event.proofs.Answers.{kept_whole}
use Rattle.fwd_event.proofs.reading.whole_prefix.Goals as goal

pub loop-at-preserved : goal.loop-at-preserved
loop-at-preserved c =
    let next = c.in-Ok.ensures in
    record {
      within = omega (arith, next.1.0, length-drop c.loop-at.at c.args.bytes.now, c.loop-at.invariant.within);
      are = rw c.in_ok-push-in-Ok.ensures.ok (one_more c.loop-at.events c.in-Ok.event next.0 c.loop-at.at c.in-Ok.length c.args.bytes.now c.loop-at.invariant.within c.loop-at.invariant.are next.1 next.2);
    }

pub returns-in-Err : goal.returns-in-Err
returns-in-Err c = kept_whole c.events_unless_memory.result c.in-Err.error c.loop-at.events c.loop-at.at c.args.bytes.now c.loop-at.invariant.are c.loop-at-test.true c.in-Err.ensures c.events_unless_memory.ensures
