use Rattle.std.proofs.Common.{◌≡◌}
use Rattle.std.specs.Option.{option_copied}
use Rattle.fwd_script.specs.Schedule.{next_is_happening, lines_left}
use Rattle.fwd_script.proofs.LineSteps.{size}
use Rattle.fwd_script.proofs.reader.next_is_happening.Given as goal

abbrev pub invariant-lines : goal.invariant-lines
invariant-lines l = next_is_happening (lines_left (option_copied l.initial.rest)) ≡ next_is_happening (lines_left (option_copied l.rest))

abbrev pub decreases-lines : goal.decreases-lines
decreases-lines l = size (option_copied l.rest)
