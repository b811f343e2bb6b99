use Rattle.fwd_outside.specs.Program.{entry}
use Rattle.fwd_outside.specs.Files.{ReadAt}
use Rattle.fwd_live.proofs.folder_files.FolderFilesFiles.read_at.Given as goal

abbrev pub ghost-then : goal.ghost-then
ghost-then a = entry (ReadAt a._note.now.0.now a._note.now.1 a._note.now.2) a._note.now.3.now
