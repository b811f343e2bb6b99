use Rattle.std.specs.Prelude.{Some, None}
use Rattle.fwd_outside.specs.Program.{entry}
use Rattle.fwd_outside.specs.Disk.{Read}
use Rattle.fwd_record.proofs.counted_disk.CountedDiskDisk.read.Given as goal

abbrev pub ghost-then : goal.ghost-then
ghost-then g a = entry (Read a._note.now.0.now a._note.now.1 a._note.now.2) (Some a._note.now.3.now)

abbrev pub ghost-then-2 : goal.ghost-then-2
ghost-then-2 g a = entry (Read a._note.now.0.now a._note.now.1 a._note.now.2) None
