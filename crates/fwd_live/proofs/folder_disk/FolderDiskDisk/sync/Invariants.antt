use Rattle.fwd_outside.specs.Program.{entry}
use Rattle.fwd_outside.specs.Disk.{Sync}
use Rattle.fwd_live.proofs.folder_disk.FolderDiskDisk.sync.Given as goal

abbrev pub ghost-then : goal.ghost-then
ghost-then a = entry (Sync a._note.now.0.now) a._note.now.1
