use Rattle.fwd_outside.specs.Program.{entry}
use Rattle.fwd_outside.specs.Files.{Length}
use Rattle.fwd_live.proofs.folder_files.FolderFilesFiles.length.Given as goal

abbrev pub ghost-then : goal.ghost-then
ghost-then a = entry (Length a._note.now.0.now) a._note.now.1
