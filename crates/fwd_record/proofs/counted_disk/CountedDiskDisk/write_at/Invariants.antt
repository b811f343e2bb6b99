use Rattle.fwd_script_loop.specs.Place.{taken_answer}
use Rattle.fwd_outside.specs.Program.{entry}
use Rattle.fwd_outside.specs.Disk.{WriteAt}
use Rattle.fwd_record.proofs.counted_disk.CountedDiskDisk.write_at.Given as goal

abbrev pub ghost-then : goal.ghost-then
ghost-then g a = entry (WriteAt a._note.now.0.now a._note.now.1 a._note.now.2.now) (taken_answer a._note.now.3)
