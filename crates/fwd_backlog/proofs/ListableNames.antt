-- Recovered files have the names that were listed.
use Rattle.std.proofs.Common.{◌≡◌, ℕ, Bool, true, false, IsTrue, if◌then◌else◌, List, [], ◌∷◌, ◌++◌, append_assoc, length, get_or, map, All, Contains, Option, Some, None, Result, Ok, refl, sym, ◌∙◌, ap, subst}
use Rattle.std.specs.List.{AllZip}
use Rattle.std.specs.List.Sorted.{IsStrictlySortedBy}
use Rattle.std.proofs.lemmas.List.{append-nil}
use Rattle.std.proofs.lemmas.List.Elements.{All-nil, All-cons, All-head, All-tail, All-append, All-contains, All-contains_itself}
use Rattle.fwd_outside.specs.Program.{Return, Execution, bind, with_value}
use Rattle.fwd_outside.specs.Disk.{DiskLog, DiskEntry, DiskProgram, IsFileName, reads}
use Rattle.fwd_chunk.specs.Check.{enough_bytes}
use Rattle.fwd_chunk.specs.declared.chunk.Found.{Found}
use Rattle.fwd_backlog.specs.declared.file_read.FileRead.{FileRead}
use Rattle.fwd_backlog.specs.declared.listed_file.Listed.{Listed}
use Rattle.fwd_backlog.specs.LoadResult.{Loads}
use Rattle.fwd_backlog.specs.Serial.{is_chunk_name}
use Rattle.fwd_backlog.specs.Listing.{path_of, chunks_in, by_name, in_order, IsNamed}
use Rattle.fwd_backlog.specs.LoadProgram.{file_read, read_files_program, IsDescriptionOf}
use Rattle.fwd_backlog.specs.Groups.{IsChecked}
use Rattle.fwd_backlog.specs.Recovered.{place_of, HaveListableNames}
use Rattle.fwd_backlog.proofs.Names.{sorted, same_files}

-- the chunk files in the folder of a stream
pub chunks_named : (stream : List ℕ) (names : List (List ℕ)) → IsFileName stream → All IsFileName names → All IsNamed (chunks_in stream names)
chunks_named stream [] is are = All-nil IsNamed
chunks_named stream (name ∷ names) is are = by (is_chunk_name name) refl (chunks_named stream names is (All-tail IsFileName name names are))
  where
    by : (b : Bool) → is_chunk_name name ≡ b → All IsNamed (chunks_in stream names)
        → All IsNamed (if b then record { name = name; stream = stream } ∷ chunks_in stream names else chunks_in stream names)
    by true chunk rest = All-cons IsNamed (record { name = name; stream = stream }) (chunks_in stream names) (record { stream = is; name = All-head IsFileName name names are; chunk = chunk }) rest
    by false chunk rest = rest

-- after those so far
pub more_named : (stream : List ℕ) (names : List (List ℕ)) (files after : List Listed) → IsFileName stream → All IsFileName names → All IsNamed files → after ≡ files ++ chunks_in stream names → All IsNamed after
more_named stream names files after is are named grown = subst (All IsNamed) (sym grown) (All-append IsNamed files (chunks_in stream names) named (chunks_named stream names is are))

pub none_named : (files : List Listed) → files ≡ [] → All IsNamed files
none_named files none = subst (All IsNamed) (sym none) (All-nil IsNamed)

-- the order keeps them
in_order_named : (files : List Listed) → All IsNamed files → All IsNamed (in_order files)
in_order_named files named k d lt =
    let file = get_or (in_order files) k d in
    All-contains IsNamed files file named ((same_files files file).0 (All-contains_itself (in_order files) k d lt))

abbrev the_file : FileRead → Listed
the_file read = read.file

map_push : (read : List FileRead) (one : FileRead) → map the_file (read ++ one ∷ []) ≡ map the_file read ++ one.file ∷ []
map_push [] one = refl
map_push (first ∷ read) one = ap (λ (l : List Listed). first.file ∷ l) (map_push read one)

-- one file is synced and read, and then the others
module _ (root : List ℕ) (file : Listed) (files : List Listed) (so_far read : List FileRead) where
  abbrev then_others : List ℕ → DiskProgram (Option (List FileRead))
  then_others bytes = read_files_program root files (so_far ++ file_read file bytes ∷ [])

  abbrev Ordered : Type 0
  Ordered = map the_file read ≡ map the_file so_far ++ file ∷ files

  after_read : ((bytes : List ℕ) (entries : List DiskEntry) → Execution (then_others bytes) entries (Return (Some read)) → Ordered) → (answer : Option (List ℕ)) (entries : List DiskEntry)
      → Execution (with_value then_others answer) entries (Return (Some read)) → Ordered
  after_read more None [] way = absurd (cc way)
  after_read more None (e ∷ entries) way = absurd way
  after_read more (Some bytes) entries way = more bytes entries way

  after_sync : ((bytes : List ℕ) (entries : List DiskEntry) → Execution (then_others bytes) entries (Return (Some read)) → Ordered) → (answer : Option (Unit {0})) (entries : List DiskEntry)
      → Execution (bind (with_value (λ _. reads (path_of root file) 0 enough_bytes) answer) (with_value then_others)) entries (Return (Some read)) → Ordered
  after_sync more None [] way = absurd (cc way)
  after_sync more None (e ∷ entries) way = absurd way
  after_sync more (Some done) [] way = absurd (cc way)
  after_sync more (Some done) (e ∷ entries) way = after_read more way.0 entries way.2

  one_more : (bytes : List ℕ) → map the_file read ≡ map the_file (so_far ++ file_read file bytes ∷ []) ++ files → Ordered
  one_more bytes is =
      is ∙ ap (λ (l : List Listed). l ++ files) (map_push so_far (file_read file bytes)) ∙ append_assoc (map the_file so_far) (file ∷ []) files

-- what was read completely is what was to be read
abbrev all_of : List FileRead → DiskProgram (Option (List FileRead))
all_of read = Return (Some read)

same_read : (one two : List FileRead) → all_of one ≡ all_of two → one ≡ two
same_read one two is = cc is

read_in_order : (root : List ℕ) (files : List Listed) (so_far read : List FileRead) (entries : List DiskEntry) → Execution (read_files_program root files so_far) entries (Return (Some read)) → map the_file read ≡ map the_file so_far ++ files
read_in_order root [] so_far read [] way = ap (λ (r : List FileRead). map the_file r) (same_read read so_far way) ∙ sym (append-nil (map the_file so_far))
read_in_order root [] so_far read (e ∷ entries) way = absurd way
read_in_order root (file ∷ files) so_far read [] way = absurd (cc way)
read_in_order root (file ∷ files) so_far read (e ∷ entries) way =
    after_sync root file files so_far read
    (λ bytes es more. one_more root file files so_far read bytes (read_in_order root files (so_far ++ file_read file bytes ∷ []) read es more)) way.0 entries way.2

same_place : (read : FileRead) (found : Found) → IsChecked read found → place_of found ≡ read.file
same_place read found is = (λ i. record { name = is.found_of.name i; stream = is.found_of.stream i })

places : (read : List FileRead) (found : List Found) → AllZip IsChecked read found → map place_of found ≡ map the_file read
places [] [] are = refl
places [] (f ∷ found) are = absurd are
places (r ∷ read) [] are = absurd are
places (r ∷ read) (f ∷ found) are = (λ i. same_place r f are.0 i ∷ places read found are.1 i)

by_places : (found : List Found) → All IsNamed (map place_of found) → All (λ file. IsNamed (place_of file)) found
by_places [] are = All-nil (λ file. IsNamed (place_of file))
by_places (file ∷ found) are =
    All-cons (λ file. IsNamed (place_of file)) file found (All-head IsNamed (place_of file) (map place_of found) are) (by_places found (All-tail IsNamed (place_of file) (map place_of found) are))

pub found_named : (a b : DiskLog) (root : List ℕ) (listed files : List Listed) (found : List Found) → files ≡ in_order listed → All IsNamed listed
    → Loads a b (read_files_program root files []) (AllZip IsChecked) (Ok found) → HaveListableNames found
found_named a b root listed files found ordered named loads =
    let did = loads.1 in
    let is : map place_of found ≡ in_order listed = places loads.0 found loads.2 ∙ read_in_order root files [] loads.0 did.entries did.way ∙ ordered in
    record {
      each = by_places found (subst (All IsNamed) (sym is) (in_order_named listed named));
      sorted = subst (IsStrictlySortedBy by_name) (sym is) (sorted listed);
    }
