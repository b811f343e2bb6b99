use Rattle.std.proofs.Common.{◌≡◌, ◌++◌, take, map}
use Rattle.fwd_script.specs.Text.{ended_lines, planned_text}
use Rattle.fwd_script.proofs.writer.write_planned.Given as goal

abbrev pub invariant-loop-planned : goal.invariant-loop-planned
invariant-loop-planned l = l.text ≡ l.fn.text ++ ended_lines (map planned_text (take l.planned-index l.plan))
