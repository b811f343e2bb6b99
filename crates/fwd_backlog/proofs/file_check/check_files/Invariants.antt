use Rattle.std.proofs.Common.{◌≤◌, ◌-◌, length, drop}
use Rattle.fwd_backlog.proofs.Files.{IsReadTo}
use Rattle.fwd_backlog.proofs.file_check.check_files.Given as goal

-- the files left to read, and the calls so far
abbrev pub invariant-loop-at : goal.invariant-loop-at
invariant-loop-at g l = record {
  read : IsReadTo (g.D.Disk.call_log l.fn.disk) (g.D.Disk.call_log l.disk) l.root l.files (drop l.at l.files) l.found;
  within : l.at ≤ length l.files;
  faults : g.D.Disk.faults l.fn.disk ≤ g.D.Disk.faults l.disk;
}

abbrev pub decreases-loop-at : goal.decreases-loop-at
decreases-loop-at g l = length l.files - l.at
