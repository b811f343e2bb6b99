use Rattle.std.proofs.Common.{ℕ, ◌+◌, ◌-◌, ◌≤◌, length}
use Rattle.fwd_outside.specs.Log.{Leads}
use Rattle.fwd_chunk.specs.Content.{read_part_program, read_loop}
use Rattle.fwd_chunk.proofs.content.read_part.Given as goal

-- the bytes left to read, and the calls so far
abbrev pub invariant-reading : goal.invariant-reading
invariant-reading g l = record {
  calls : (reads : ℕ) × (l.size ≤ length l.bytes + reads) × Leads (g.D.Disk.call_log l.fn.disk) (g.D.Disk.call_log l.disk) (read_part_program l.name l.from l.size) (read_loop reads l.name l.from l.size l.bytes);
  within : length l.bytes ≤ l.size;
  later : g.D.Disk.faults l.fn.disk ≤ g.D.Disk.faults l.disk;
}

abbrev pub decreases-reading : goal.decreases-reading
decreases-reading g l = l.size - length l.bytes
