use Rattle.std.proofs.Common.{Ok, Err, inr, arith}
use Rattle.std.proofs.lemmas.List.{length-drop}
use Rattle.std.proofs.lemmas.Result.{err_from_is_err_and}
use Rattle.fwd_event.proofs.EventLists.{one_more}
use Rattle.fwd_event.proofs.Answers.{exactly, stopped, read_all}
use Rattle.fwd_event.proofs.reading.read_events.Goals as goal

pub loop-at-preserved : goal.loop-at-preserved
loop-at-preserved c =
    let next = c.in_ok-event.ensures in
    record {
      within = omega (arith, next.1.0, length-drop c.loop-at.at c.args.bytes.now, c.loop-at.invariant.within);
      are = rw c.in_ok-push.ensures.ok (one_more c.loop-at.events c.in_ok-event.event next.0 c.loop-at.at c.in_ok-event.length c.args.bytes.now c.loop-at.invariant.within c.loop-at.invariant.are next.1 next.2);
    }

pub returns-in_err-event : goal.returns-in_err-event
returns-in_err-event c = λ answer.
    let e = err_from_is_err_and c.from_residual.result c.from_residual.ensures.1 in
    let x = c.in_err-event.field-0.0 in
    rw (e.1, e.2) (exactly (Err x) c.args.bytes.now (stopped x c.loop-at.events c.loop-at.at c.args.bytes.now c.loop-at.invariant.are c.loop-at-test.true c.in_err-event.ensures) answer)

pub returns : goal.returns
returns c = λ answer. exactly (Ok c.loop-at.events) c.args.bytes.now (inr (read_all c.loop-at.events c.loop-at.at c.args.bytes.now c.loop-at.invariant.are c.loop-at-test.false)) answer
