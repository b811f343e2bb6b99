-- The fields of a disk in memory beside its record: the files as reads see them, and the data for the next
-- answer.
use Rattle.std.specs.Prelude.{◌≡◌, ℕ, List, []}
use Rattle.fwd_outside.specs.File.{content}
use Rattle.fwd_disk_mem.specs.FileTable.{MemFile, found}
use Rattle.fwd_disk_mem.specs.declared.entry.MemEntry.{MemEntry}
use Rattle.fwd_disk_mem.specs.Entry.{IsPlayed, files_of, made_of, fails_of}

pub record IsKept (calls : List MemEntry) (files : List MemFile) (fails : List ℕ) (made : ℕ) : Type 0 where
  pub played : IsPlayed [] calls
  pub reads : (name : List ℕ) → found files name ≡ content (files_of calls name)
  pub fails_are : fails ≡ fails_of calls
  pub made_is : made ≡ made_of calls
