use Rattle.std.proofs.Common.{◌≡◌, ◌++◌}
use Rattle.fwd_backlog.proofs.file_check.add_all.Given as goal

abbrev pub invariant-loop-file : goal.invariant-loop-file
invariant-loop-file l = l.found ≡ l.initial.found ++ l.yielded
