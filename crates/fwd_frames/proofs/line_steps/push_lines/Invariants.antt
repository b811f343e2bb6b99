use Rattle.std.proofs.Common.{◌≡◌, ◌≤◌, ◌-◌, ◌++◌, length, drop}
use Rattle.fwd_frames.specs.Lines.{lines, rest}
use Rattle.fwd_frames.proofs.line_steps.push_lines.Given as goal

abbrev pub invariant-loop-end : goal.invariant-loop-end
invariant-loop-end l =
    (l.from ≤ length l.stream) × (l.lines ++ lines (drop l.from l.stream) ≡ l.initial.lines ++ lines l.stream) × (rest (drop l.from l.stream) ≡ rest l.stream)

abbrev pub decreases-loop-end : goal.decreases-loop-end
decreases-loop-end l = length l.stream - l.from
