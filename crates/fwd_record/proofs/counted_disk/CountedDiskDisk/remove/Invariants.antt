use Rattle.fwd_script_loop.specs.Place.{taken_answer}
use Rattle.fwd_outside.specs.Program.{entry}
use Rattle.fwd_outside.specs.Disk.{Remove}
use Rattle.fwd_record.proofs.counted_disk.CountedDiskDisk.remove.Given as goal

abbrev pub ghost-then : goal.ghost-then
ghost-then g a = entry (Remove a._note.now.0.now) (taken_answer a._note.now.1)
