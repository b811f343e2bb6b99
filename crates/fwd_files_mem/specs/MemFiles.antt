-- Files in memory: their record of calls and changes, their content after it, and their answers.
use Rattle.std.specs.Prelude.{◌≡◌, ℕ, ◌+◌, ◌-◌, ◌^◌, min, ◌==◌, if◌then◌else◌, List, [], ◌∷◌, ◌++◌, take, Option, Some, None, unwrap_or, Result, Ok, Err}
use Rattle.std.specs.Option.{option_map}
use Rattle.std.specs.Ordering.{nat_cmp}
use Rattle.std.specs.List.{list_any}
use Rattle.std.specs.BTreeMap.{is_at}
use Rattle.std.specs.Str.{bytes_eq}
use Rattle.fwd_outside.specs.Program.{entry}
use Rattle.fwd_outside.specs.declared.errors.FileErr.{FileErr}
use Rattle.fwd_outside.specs.declared.errors.FileErr.TheVariants as file_err
use Rattle.fwd_outside.specs.Files.{FilesGiven, FilesEntry, FilesLog, Changed, found, files_after_all, IsConsistentLog}
use Rattle.fwd_outside.specs.Files as files
use Rattle.fwd_files_mem.specs.declared.files.FilesNote.{FilesNote}
use Rattle.fwd_files_mem.specs.declared.files.FilesNote.TheVariants.{Length, ReadAt, Preset, FailAt, Change}
use Rattle.fwd_files_mem.specs.declared.change.FileChange.{FileChange}
use Rattle.fwd_files_mem.specs.declared.change.FileChange.TheVariants.{Append, Cut}
use Rattle.fwd_files_mem.specs.FilesState.{FilesState}
use Rattle.fwd_files_mem.specs.FilesAnswers.{made_of, fails_of, readable_after, IsPlayed}

-- the path of a change
abbrev pub path_of : FileChange → List ℕ
path_of (Append path bytes) = path
path_of (Cut path most) = path

-- the bytes that a change leaves under its path; `None` for a missing file
abbrev pub changed : FileChange → Option (List ℕ) → Option (List ℕ)
changed (Append path bytes) content = Some (unwrap_or content [] ++ bytes)
changed (Cut path most) content = option_map (take most) content

-- the file of this path has these bytes from here on; no entry for a missing file
abbrev pub preset_entries : List ℕ → Option (List ℕ) → List FilesEntry
preset_entries path (Some bytes) = entry (Changed path bytes) tt ∷ []
preset_entries path None = []

-- the trace of a note, from this content of the files
abbrev pub entries_of : FilesGiven → FilesNote → List FilesEntry
entries_of at (Length path answer) = entry (files.Length path) answer ∷ []
entries_of at (ReadAt path from most answer) = entry (files.ReadAt path from most) answer ∷ []
entries_of at (Preset path bytes) = preset_entries path (Some bytes)
entries_of at (FailAt call) = entry (files.FailAt call) tt ∷ []
entries_of at (Change change) = preset_entries (path_of change) (changed change (found at (path_of change)))

-- the trace of notes
abbrev pub entries_from : FilesGiven → List FilesNote → List FilesEntry
entries_from at [] = []
entries_from at (note ∷ notes) =
    entries_of at note ++ entries_from (files_after_all at (entries_of at note)) notes

-- the files after these notes
abbrev pub files_now : FilesGiven → List FilesNote → FilesGiven
files_now given notes = files_after_all given (entries_from given notes)

abbrev pub told_of : FilesState → FilesLog
told_of held = Some (held.given, entries_from held.given held.notes)

-- the bytes that the next call reads from; `None` if it fails
abbrev pub readable : FilesState → List ℕ → Option (List ℕ)
readable held path = readable_after held.given (entries_from held.given held.notes) path

abbrev pub with_note : FilesState → FilesNote → FilesState
with_note held note = record held { notes = held.notes ++ note ∷ [] }

-- after a failed call
abbrev pub with_fault : FilesState → FilesNote → FilesState
with_fault held note =
    record held { notes = held.notes ++ note ∷ []; faults = min (held.faults + 1) (2 ^ 64 - 1) }

-- A call returns this answer and is recorded. Out of memory changes nothing.
abbrev pub Answered : {T : Type 0} → Result T FileErr → Option T → (Option T → FilesNote) → FilesState
    → FilesState → Type 0
Answered (Ok value) answer note old new = (answer ≡ Some value) × (new ≡ with_note old (note (Some value)))
Answered (Err file_err.Failed) answer note old new = (answer ≡ None) × (new ≡ with_fault old (note None))
Answered (Err file_err.Memory) answer note old new = new ≡ old

-- the same bytes under each path
abbrev pub SameFiles : FilesGiven → FilesGiven → Type 0
SameFiles a b = (path : List ℕ) → found a path ≡ found b path

-- The fields of files in memory beside their record: the bytes of each file now, the number of calls, and
-- the numbers of the calls that are to fail.
pub record IsKept (given now : FilesGiven) (notes : List FilesNote) (calls : ℕ)
    (fails : List ℕ) : Type 0 where
  pub same : SameFiles now (files_now given notes)
  pub honest : IsConsistentLog given (entries_from given notes)
  pub played : IsPlayed given [] (entries_from given notes)
  pub counted : calls ≡ made_of (entries_from given notes)
  pub failing : (number : ℕ)
      → list_any (is_at (nat_cmp number)) fails
      ≡ list_any (λ n. n == number) (fails_of (entries_from given notes))

-- The file of this path has this content now, or is missing for `None`, and the others are unchanged.
abbrev pub HasContent : List ℕ → Option (List ℕ) → FilesGiven → FilesGiven → Type 0
HasContent path content old new =
    (other : List ℕ) → found new other ≡ (if bytes_eq path other then content else found old other)
