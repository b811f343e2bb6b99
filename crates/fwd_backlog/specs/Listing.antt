-- The chunk files under a root: their listing, and the order of loading.
use Rattle.std.specs.Prelude.{ℕ, if◌then◌else◌, IsTrue, List, [], ◌∷◌, ◌++◌, fold, Option, Some}
use Rattle.std.specs.declared.cmp.Ordering.{Ordering}
use Rattle.std.specs.Ordering.{nat_cmp, ordering_then}
use Rattle.std.specs.Cmp.Lexicographic.{slice_cmp}
use Rattle.std.specs.BTreeSet.{insert_key}
use Rattle.fwd_outside.specs.Program.{Return, and_then}
use Rattle.fwd_outside.specs.Disk.{DiskProgram, IsFileName, lists}
use Rattle.fwd_backlog.specs.declared.listed_file.Listed.{Listed}
use Rattle.fwd_backlog.specs.Serial.{is_chunk_name}

-- the folder of a stream, and a file in it; 47 is `/`
abbrev pub folder_of : List ℕ → List ℕ → List ℕ
folder_of root stream = root ++ 47 ∷ stream

abbrev pub path_of : List ℕ → Listed → List ℕ
path_of root file = folder_of root file.stream ++ 47 ∷ file.name

-- A chunk file that a disk may list: both names are names of files, and its own is that of a chunk file.
pub record IsNamed (file : Listed) : Type 0 where
  pub stream : IsFileName file.stream
  pub name : IsFileName file.name
  pub chunk : IsTrue (is_chunk_name file.name)

-- the chunk files among the names in a stream's folder
abbrev pub chunks_in : List ℕ → List (List ℕ) → List Listed
chunks_in stream [] = []
chunks_in stream (name ∷ names) =
    if is_chunk_name name then record { name = name; stream = stream } ∷ chunks_in stream names
    else chunks_in stream names

-- lists each folder, and appends its files to those so far
abbrev pub list_folders_program : List ℕ → List (List ℕ) → List Listed → DiskProgram (Option (List Listed))
list_folders_program root [] files = Return (Some files)
list_folders_program root (stream ∷ streams) files = and_then (lists (folder_of root stream))
    (λ names. list_folders_program root streams (files ++ chunks_in stream names))

-- Lists the root, and then each name in it as a folder. A file directly under the root is listed as an empty
-- folder. A folder with a name of a chunk file fails its sync.
abbrev pub list_files_program : List ℕ → DiskProgram (Option (List Listed))
list_files_program root = and_then (lists root) (λ streams. list_folders_program root streams [])

-- by name, then by stream
abbrev pub by_name : Listed → Listed → Ordering
by_name x y = ordering_then (slice_cmp nat_cmp x.name y.name) (slice_cmp nat_cmp x.stream y.stream)

-- the files in that order
abbrev pub in_order : List Listed → List Listed
in_order files = fold (insert_key by_name) [] files
