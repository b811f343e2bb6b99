use Rattle.std.proofs.Common.{arith}
use Rattle.std.proofs.lemmas.List.{length-drop}
use Rattle.fwd_out_text.proofs.FirstEvents.{none_are, one_written}
use Rattle.fwd_out_text.proofs.content.write_content.Goals as goal

pub loop-at-preserved : goal.loop-at-preserved
loop-at-preserved c =
    let content = c.args.content.now in
    let found = rw c.in-Some.is at c.in_ok-length.ensures.given in
    record {
      within = omega (arith, found.1.1.0, length-drop c.loop-at.at content, c.loop-at.invariant.within);
      written = one_written c.args.form c.args.tag.now c.args.out.now c.write_next.new.out c.loop-at.out c.loop-at.at c.in-Some.length content c.loop-at.invariant.within c.loop-at.invariant.written found;
    }

pub returns-in-None-clause-none : goal.returns-in-None-clause-none
returns-in-None-clause-none c = λ events are. absurd (none_are c.loop-at.invariant.written.0 events c.loop-at.at c.args.content.now c.loop-at.invariant.written.1 c.loop-at-test.true (c.in_ok-length.ensures.none c.in-None.is) are)
