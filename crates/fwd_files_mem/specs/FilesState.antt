-- The abstract state of files in memory.
use Rattle.std.specs.Prelude.{ℕ, List}
use Rattle.fwd_outside.specs.Files.{FilesGiven}
use Rattle.fwd_files_mem.specs.declared.files.FilesNote.{FilesNote}

pub record FilesState : Type 0 where
  -- the initial content of the files
  pub given : FilesGiven
  -- the record, the oldest entry first
  pub notes : List FilesNote
  -- the number of failed calls
  pub faults : ℕ
