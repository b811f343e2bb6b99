use Rattle.fwd_outside.specs.Program.{entry}
use Rattle.fwd_outside.specs.Disk.{Place}
use Rattle.fwd_live.proofs.folder_disk.FolderDiskDisk.place.Given as goal

abbrev pub ghost-then : goal.ghost-then
ghost-then a = entry (Place a._note.now.0.now a._note.now.1.now) a._note.now.2
