use Rattle.std.proofs.Common.{◌≡◌, ◌+◌, ◌≤◌, length}
use Rattle.std.specs.Option.{option_copied}
use Rattle.fwd_script.specs.Schedule.{schedule_of, read_on, lines_left}
use Rattle.fwd_script.proofs.LineSteps.{size}
use Rattle.fwd_script.proofs.reader.read_schedule.Given as goal

abbrev pub invariant-lines : goal.invariant-lines
invariant-lines l = record {
  so_read : schedule_of l.fn.bytes ≡ read_on l.so_far (l.number + 1) (lines_left (option_copied l.rest));
  bounded : l.number + size (option_copied l.rest) ≤ length l.fn.bytes + 1;
}

abbrev pub decreases-lines : goal.decreases-lines
decreases-lines l = size (option_copied l.rest)
