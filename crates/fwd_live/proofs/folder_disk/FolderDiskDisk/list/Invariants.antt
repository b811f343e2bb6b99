use Rattle.fwd_outside.specs.Program.{entry}
use Rattle.fwd_outside.specs.Disk.{ListNames}
use Rattle.fwd_live.proofs.folder_disk.FolderDiskDisk.list.Given as goal

abbrev pub ghost-then : goal.ghost-then
ghost-then a = entry (ListNames a._note.now.0.now) a._note.now.1.now
