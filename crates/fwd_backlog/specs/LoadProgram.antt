-- The disk program of loading, and the backlog by its value.
use Rattle.std.specs.Prelude.{◌≡◌, ℕ, List, [], ◌∷◌, ◌++◌, Option, Some}
use Rattle.std.specs.List.{AllZip}
use Rattle.fwd_outside.specs.Program.{Return, and_then}
use Rattle.fwd_outside.specs.Disk.{DiskProgram, syncs, reads}
use Rattle.fwd_chunk.specs.declared.chunk.Found.{Found}
use Rattle.fwd_chunk.specs.Check.{IsCheckResult, enough_bytes}
use Rattle.fwd_backlog.specs.declared.file_read.FileRead.{FileRead}
use Rattle.fwd_backlog.specs.declared.listed_file.Listed.{Listed}
use Rattle.fwd_backlog.specs.declared.load.Backlog.{Backlog}
use Rattle.fwd_backlog.specs.Listing.{path_of, list_files_program, in_order}
use Rattle.fwd_backlog.specs.Serial.{next_number}

-- a file with the bytes that were read from it
abbrev pub file_read : Listed → List ℕ → FileRead
file_read file bytes = record { file = file; bytes = bytes }

-- syncs a file, so that a crash leaves what is read, and reads it in one call
abbrev pub read_synced_program : List ℕ → DiskProgram (Option (List ℕ))
read_synced_program path = and_then (syncs path) (λ _. reads path 0 enough_bytes)

-- reads each file, and appends it with its bytes to those so far
abbrev pub read_files_program : List ℕ → List Listed → List FileRead → DiskProgram (Option (List FileRead))
read_files_program root [] so_far = Return (Some so_far)
read_files_program root (file ∷ files) so_far = and_then (read_synced_program (path_of root file))
    (λ bytes. read_files_program root files (so_far ++ file_read file bytes ∷ []))

-- lists all folders, and then reads the files in order
abbrev pub load_program : List ℕ → DiskProgram (Option (List FileRead))
load_program root = and_then (list_files_program root) (λ files. read_files_program root (in_order files) [])

-- the description of a file that was read
pub record IsDescriptionOf (read : FileRead) (found : Found) : Type 0 where
  pub stream : found.stream ≡ read.file.stream
  pub name : found.name ≡ read.file.name
  pub seen : IsCheckResult read.bytes found.seen

-- the backlog of the files that were read: the description of each, in their order, and the number of the
-- next chunk
pub record IsBacklog (files : List FileRead) (backlog : Backlog) : Type 0 where
  pub found : AllZip IsDescriptionOf files backlog.found
  pub next : backlog.next ≡ next_number backlog.found
