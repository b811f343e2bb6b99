use Rattle.std.specs.Prelude.{Some, None}
use Rattle.fwd_outside.specs.Program.{entry}
use Rattle.fwd_outside.specs.Disk.{ListNames}
use Rattle.fwd_record.proofs.counted_disk.CountedDiskDisk.list.Given as goal

abbrev pub ghost-then : goal.ghost-then
ghost-then g a = entry (ListNames a._note.now.0.now) (Some a._note.now.1.now)

abbrev pub ghost-then-2 : goal.ghost-then-2
ghost-then-2 g a = entry (ListNames a._note.now.now) None
