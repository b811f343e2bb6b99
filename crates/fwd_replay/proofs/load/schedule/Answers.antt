use Rattle.std.proofs.Common.{◌≡◌, ◌+◌, ◌-◌, ◌∙◌, ap, arith}
use Rattle.fwd_replay.proofs.LoadLines.{lines_all, lines_more, so_far}
use Rattle.fwd_replay.proofs.load.schedule.Goals as goal
use Rattle.fwd_replay.proofs.load.schedule.Goals.{else-loop-number-test, then-loop-number-test+in_ok-push_lines+else-number-count}

pub loop-number-preserved : goal.loop-number-preserved
loop-number-preserved c =
    let same : c.loop-number.number ≡ c.loop-number.number + 1 - 1 = omega arith in
    (omega arith, omega arith, lines_more c.loop-number.number c.loop-number.text c.push_lines.new.text c.loop-number.invariant.0 c.loop-number.invariant.2 c.in_ok-push_lines.ensures ∙ ap so_far same)

pub returns : goal.returns
returns c =
    elim c.loop-number-test.branch [
      | else-loop-number-test w ↦ lines_all (c.loop-number.number - 1) c.args.count c.loop-number-test.text c.extend_from_slice.new.self (omega arith) (w.text-is ∙ c.loop-number.invariant.2) c.in_ok-extend_from_slice.ensures.ok
      | then-loop-number-test+in_ok-push_lines+else-number-count w ↦
          lines_all c.loop-number.number c.args.count c.loop-number-test.text c.extend_from_slice.new.self (omega arith)
          (w.text-is ∙ lines_more c.loop-number.number c.loop-number.text w.push_lines.new.text c.loop-number.invariant.0 c.loop-number.invariant.2 w.in_ok-push_lines.ensures)
          c.in_ok-extend_from_slice.ensures.ok
    ]
