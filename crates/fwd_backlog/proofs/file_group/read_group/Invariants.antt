use Rattle.std.proofs.Common.{◌≡◌, ◌≤◌, length, drop}
use Rattle.fwd_backlog.proofs.GroupRead.{IsGroupTo}
use Rattle.fwd_backlog.proofs.file_group.read_group.Given as goal

-- the files left to read, and the calls so far
abbrev pub invariant-loop-file : goal.invariant-loop-file
invariant-loop-file g l = record {
  calls : IsGroupTo (g.D.Disk.call_log l.fn.disk) (g.D.Disk.call_log l.disk) l.root l.files (drop l.file-index l.files) l.group;
  count : length l.group ≡ l.file-index;
  begun : length l.group ≡ 0 → l.size ≡ 0;
  faults : g.D.Disk.faults l.fn.disk ≤ g.D.Disk.faults l.disk;
}
