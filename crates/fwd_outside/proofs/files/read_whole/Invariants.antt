use Rattle.std.proofs.Common.{ℕ, ◌+◌, ◌-◌, ◌≤◌, length}
use Rattle.fwd_outside.specs.Log.{Leads}
use Rattle.fwd_outside.specs.Files.{read_whole_program, read_rest_program}
use Rattle.fwd_outside.proofs.files.read_whole.Given as goal

-- what is left to read, and the calls so far
abbrev pub invariant-reading : goal.invariant-reading
invariant-reading g l =
    ((reads : ℕ) × (l.length ≤ length l.bytes + reads) × Leads (g.F.Files.call_log l.fn.files) (g.F.Files.call_log l.files) (read_whole_program l.path) (read_rest_program reads l.path l.length l.bytes))
    × (g.F.Files.faults l.fn.files ≤ g.F.Files.faults l.files)

abbrev pub decreases-reading : goal.decreases-reading
decreases-reading g l = l.length - length l.bytes
