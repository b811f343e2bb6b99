use Rattle.std.proofs.Common.{◌≤◌, drop, All}
use Rattle.fwd_outside.specs.Log.{Leads}
use Rattle.fwd_backlog.specs.Listing.{list_folders_program, list_files_program, IsNamed}
use Rattle.fwd_backlog.proofs.listing.list_files.Given as goal

-- the streams left to list, the calls so far, and the names of the files so far
abbrev pub invariant-loop-stream : goal.invariant-loop-stream
invariant-loop-stream g l =
    Leads (g.D.Disk.call_log l.fn.disk) (g.D.Disk.call_log l.disk) (list_files_program l.root) (list_folders_program l.root (drop l.stream-index l.stream-items) l.files)
    × (g.D.Disk.faults l.fn.disk ≤ g.D.Disk.faults l.disk)
    × All IsNamed l.files
