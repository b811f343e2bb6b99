-- A complete load returns what is on the disk.
use Rattle.std.proofs.Common.{◌≡◌, ◌⊎◌, inl, inr, ℕ, Bool, true, false, IsTrue, if◌then◌else◌, List, [], ◌∷◌, ◌++◌, append_assoc, map, All, Contains, Option, Some, refl, sym, ◌∙◌, ap, subst}
use Rattle.std.specs.List.{AllByRecursion, AllZip}
use Rattle.std.specs.List.Sorted.{IsStrictlySortedBy}
use Rattle.std.proofs.lemmas.List.{append-nil}
use Rattle.std.proofs.lemmas.List.Elements.{All-nil, All-cons, Contains-append_left, Contains-append_right, Contains-push_cases}
use Rattle.fwd_outside.specs.Program.{Return, Execution}
use Rattle.fwd_outside.specs.AtCrashPoints.{Ends, AtCrashPoints, HoldsThroughout}
use Rattle.fwd_outside.proofs.CrashPointLemmas.{holds_weaker, holds_moments, holds_end}
use Rattle.fwd_outside.specs.Disk.{DiskEntry, DiskProgram, IsFileName, syncs, reads, lists}
use Rattle.fwd_outside.specs.File.{content}
use Rattle.fwd_outside.specs.DiskStates.{Files, IsUnder, DiskTransition}
use Rattle.fwd_outside.proofs.Invariant.{AllInvariant}
use Rattle.fwd_chunk.specs.declared.chunk.Found.{Found}
use Rattle.fwd_chunk.specs.Check.{IsCheckResult, enough_bytes}
use Rattle.fwd_chunk.proofs.EnoughBytes.{part_is_seen}
use Rattle.fwd_backlog.specs.declared.listed_file.Listed.{Listed}
use Rattle.fwd_backlog.specs.Serial.{is_chunk_name}
use Rattle.fwd_backlog.specs.Listing.{folder_of, path_of, chunks_in, list_folders_program, list_files_program, by_name, in_order}
use Rattle.fwd_backlog.specs.declared.file_read.FileRead.{FileRead}
use Rattle.fwd_backlog.specs.LoadProgram.{file_read, read_synced_program, read_files_program, load_program, IsDescriptionOf}
use Rattle.fwd_backlog.specs.Recovered.{place_of, AreRecoveredFrom, LeavesNoMore}
use Rattle.fwd_backlog.proofs.Names.{Among, contains_of, among_of, sorted, same_files}
use Rattle.fwd_backlog.proofs.LoadInvariant.{AllKept, kept_first, no_more, With, Goes, goes_more, goes_then, goes_syncs, ReadFrom, goes_reads, ListedFrom, goes_lists, there_too}

abbrev file_in : List ℕ → List ℕ → Listed
file_in stream name = record { name = name; stream = stream }

chunk_among : (stream name : List ℕ) (names : List (List ℕ)) → Among name names → IsTrue (is_chunk_name name) → Among (file_in stream name) (chunks_in stream names)
chunk_among stream name [] h chunk = absurd h
chunk_among stream name (first ∷ names) (inl is) chunk =
    let here : is_chunk_name first ≡ true = ap is_chunk_name is ∙ chunk in
    subst (λ (b : Bool). Among (file_in stream name) (if b then file_in stream first ∷ chunks_in stream names else chunks_in stream names)) (sym here) (inl (ap (file_in stream) is))
chunk_among stream name (first ∷ names) (inr h) chunk = by (is_chunk_name first) (chunk_among stream name names h chunk)
  where
    by : (b : Bool) → Among (file_in stream name) (chunks_in stream names) → Among (file_in stream name) (if b then file_in stream first ∷ chunks_in stream names else chunks_in stream names)
    by true g = inr g
    by false g = g

chunk_listed : (stream name : List ℕ) (names : List (List ℕ)) → Contains names name → IsTrue (is_chunk_name name) → Contains (chunks_in stream names) (file_in stream name)
chunk_listed stream name names h chunk = contains_of (file_in stream name) (chunks_in stream names) (chunk_among stream name names (among_of name names h) chunk)

map_append : (f : FileRead → Listed) (xs ys : List FileRead) → map f (xs ++ ys) ≡ map f xs ++ map f ys
map_append f [] ys = refl
map_append f (x ∷ xs) ys = ap (λ (l : List Listed). f x ∷ l) (map_append f xs ys)

all_push : {X : Type 0} (P : X → Type 0) (xs : List X) (x : X) → AllByRecursion P xs → P x → AllByRecursion P (xs ++ x ∷ [])
all_push P [] x all p = (p, tt)
all_push P (y ∷ ys) x all p = (all.0, all_push P ys x all.1 p)

abbrev the_file : FileRead → Listed
the_file read = read.file

module _ (root : List ℕ) (first : Files) where
  -- a chunk file that was there at first
  abbrev StoodThere : List ℕ → List ℕ → Type 0
  StoodThere stream name = IsFileName name × IsTrue (is_chunk_name name) × IsTrue (first (path_of root (file_in stream name))).there

  -- all chunk files of these streams are listed
  abbrev Lists : List (List ℕ) → List Listed → Type 0
  Lists streams files = (stream name : List ℕ) → Contains streams stream → StoodThere stream name → Contains files (file_in stream name)

  -- of all streams
  abbrev ListsAll : List Listed → Type 0
  ListsAll files = (stream name : List ℕ) → IsFileName stream → StoodThere stream name → Contains files (file_in stream name)

  under_folder : (stream name : List ℕ) → IsUnder (folder_of root stream) name (path_of root (file_in stream name))
  under_folder stream name = record { rest = []; is = ap (λ (l : List ℕ). folder_of root stream ++ l) (sym (append-nil (47 ∷ name))); ends = inl refl }

  under_root : (stream name : List ℕ) → IsUnder root stream (path_of root (file_in stream name))
  under_root stream name = record { rest = 47 ∷ name; is = append_assoc root (47 ∷ stream) (47 ∷ name); ends = inr (name, refl) }

  lists_more : (done : List (List ℕ)) (stream : List ℕ) (names : List (List ℕ)) (files : List Listed) → Lists done files → ListedFrom first (folder_of root stream) names → Lists (done ++ stream ∷ []) (files ++ chunks_in stream names)
  lists_more done stream names files old listed s name among stood = by (Contains-push_cases done stream s among)
    where
      by : Contains done s ⊎ (stream ≡ s) → Contains (files ++ chunks_in stream names) (file_in s name)
      by (inl early) = Contains-append_left files (chunks_in stream names) (file_in s name) (old s name early stood)
      by (inr is) =
          let there = subst (λ (t : List ℕ). IsTrue (first (path_of root (file_in t name))).there) (sym is) stood.2 in
          let listed_here = listed name (path_of root (file_in stream name)) stood.0 there (under_folder stream name) in
          subst (λ (t : List ℕ). Contains (files ++ chunks_in stream names) (file_in t name)) is (Contains-append_right files (chunks_in stream names) (file_in stream name) (chunk_listed stream name names listed_here stood.1))

  goes_folders : (streams done : List (List ℕ)) (files : List Listed) (now : Files) → AllKept first now → Lists done files → Goes first (Lists (done ++ streams)) now (list_folders_program root streams files)
  goes_folders [] done files now kept old = (kept, (kept, subst (λ (l : List (List ℕ)). Lists l files) (sym (append-nil done)) old))
  goes_folders (stream ∷ streams) done files now kept old =
      goes_then first (ListedFrom first (folder_of root stream)) (Lists (done ++ stream ∷ streams)) now (lists (folder_of root stream)) (λ names. list_folders_program root streams (files ++ chunks_in stream names))
      (goes_lists first (folder_of root stream) now kept)
      (λ names end then_kept listed.
      subst (λ (l : List (List ℕ)). Goes first (Lists l) end (list_folders_program root streams (files ++ chunks_in stream names))) (append_assoc done (stream ∷ []) streams)
      (goes_folders streams (done ++ stream ∷ []) (files ++ chunks_in stream names) end then_kept (lists_more done stream names files old listed)))

  lists_all : (streams : List (List ℕ)) → ListedFrom first root streams → (files : List Listed) → Lists streams files → ListsAll files
  lists_all streams listed files lists_them stream name is stood = lists_them stream name (listed stream (path_of root (file_in stream name)) is stood.2 (under_root stream name)) stood

  no_streams : Lists [] []
  no_streams stream name among stood = absurd (among_of stream [] among)

  goes_files : (now : Files) → AllKept first now → Goes first ListsAll now (list_files_program root)
  goes_files now kept =
      goes_then first (ListedFrom first root) ListsAll now (lists root) (λ streams. list_folders_program root streams []) (goes_lists first root now kept)
      (λ streams end then_kept listed. goes_more first (Lists streams) ListsAll (lists_all streams listed) end (list_folders_program root streams []) (goes_folders streams [] [] end then_kept no_streams))

  abbrev IsReadThere : FileRead → Type 0
  IsReadThere read = ReadFrom first (path_of root read.file) 0 enough_bytes read.bytes

  -- these files were read as they were at first
  abbrev Reads : List Listed → List FileRead → Type 0
  Reads files read = AllByRecursion IsReadThere read × (map the_file read ≡ files)

  goes_synced : (path : List ℕ) (now : Files) → AllKept first now → Goes first (ReadFrom first path 0 enough_bytes) now (read_synced_program path)
  goes_synced path now kept =
      goes_then first (λ _. Unit {0}) (ReadFrom first path 0 enough_bytes) now (syncs path) (λ _. reads path 0 enough_bytes) (goes_syncs first path now kept) (λ done end then_kept _. goes_reads first path 0 enough_bytes end then_kept)

  goes_reading : (files done : List Listed) (read : List FileRead) (now : Files) → AllKept first now → Reads done read → Goes first (Reads (done ++ files)) now (read_files_program root files read)
  goes_reading [] done read now kept old = (kept, (kept, (old.0, old.1 ∙ sym (append-nil done))))
  goes_reading (file ∷ files) done read now kept old =
      goes_then first (ReadFrom first (path_of root file) 0 enough_bytes) (Reads (done ++ file ∷ files)) now (read_synced_program (path_of root file)) (λ bytes. read_files_program root files (read ++ file_read file bytes ∷ []))
      (goes_synced (path_of root file) now kept)
      (λ bytes end then_kept is_read.
      subst (λ (l : List Listed). Goes first (Reads l) end (read_files_program root files (read ++ file_read file bytes ∷ []))) (append_assoc done (file ∷ []) files)
      (goes_reading files (done ++ file ∷ []) (read ++ file_read file bytes ∷ []) end then_kept (
        all_push IsReadThere read (file_read file bytes) old.0 is_read,
        map_append the_file read (file_read file bytes ∷ []) ∙ ap (λ (l : List Listed). l ++ file ∷ []) old.1,
      )))

  -- all was listed, and read in order
  pub record IsLoaded (read : List FileRead) : Type 0 where
    pub listed : List Listed
    pub all : ListsAll listed
    pub each : AllByRecursion IsReadThere read
    pub files : map the_file read ≡ in_order listed

  pub goes_loads : (now : Files) → AllKept first now → Goes first IsLoaded now (load_program root)
  goes_loads now kept =
      goes_then first ListsAll IsLoaded now (list_files_program root) (λ files. read_files_program root (in_order files) []) (goes_files now kept)
      (λ listed end then_kept all.
      goes_more first (Reads (in_order listed)) IsLoaded (λ read is_read. record { listed = listed; all = all; each = is_read.0; files = is_read.1 }) end (read_files_program root (in_order listed) [])
      (goes_reading (in_order listed) [] [] end then_kept (tt, refl)))

  module _ (last : Files) (kept : AllKept first last) where
    same_place : (read : FileRead) (found : Found) → IsDescriptionOf read found → place_of found ≡ read.file
    same_place read found is = (λ i. record { name = is.name i; stream = is.stream i })

    one_found : (read : FileRead) (found : Found) → IsReadThere read → IsDescriptionOf read found → (bytes : List ℕ) × (content (last (path_of root (place_of found))) ≡ Some bytes) × IsCheckResult bytes found.seen
    one_found read found there is =
        let stands : content (last (path_of root read.file)) ≡ Some there.0 = (kept (path_of root read.file)).reads ∙ there.1 in
        let seen = part_is_seen there.0 found.seen (subst (λ (b : List ℕ). IsCheckResult b found.seen) there.2 is.seen) in
        (there.0, subst (λ (f : Listed). content (last (path_of root f)) ≡ Some there.0) (sym (same_place read found is)) stands, seen)

    each_found : (read : List FileRead) (found : List Found) → AllByRecursion IsReadThere read → AllZip IsDescriptionOf read found
        → All (λ file. (bytes : List ℕ) × (content (last (path_of root (place_of file))) ≡ Some bytes) × IsCheckResult bytes file.seen) found
    each_found [] [] there are = All-nil (λ file. (bytes : List ℕ) × (content (last (path_of root (place_of file))) ≡ Some bytes) × IsCheckResult bytes file.seen)
    each_found [] (f ∷ found) there are = absurd are
    each_found (r ∷ read) [] there are = absurd are
    each_found (r ∷ read) (f ∷ found) there are =
        All-cons (λ file. (bytes : List ℕ) × (content (last (path_of root (place_of file))) ≡ Some bytes) × IsCheckResult bytes file.seen) f found (one_found r f there.0 are.0) (each_found read found there.1 are.1)

    places : (read : List FileRead) (found : List Found) → AllZip IsDescriptionOf read found → map place_of found ≡ map the_file read
    places [] [] are = refl
    places [] (f ∷ found) are = absurd are
    places (r ∷ read) [] are = absurd are
    places (r ∷ read) (f ∷ found) are = (λ i. same_place r f are.0 i ∷ places read found are.1 i)

    pub found_there : (read : List FileRead) (found : List Found) → IsLoaded read → AllZip IsDescriptionOf read found → AreRecoveredFrom root last found
    found_there read found loaded are =
        let in_their_order : map place_of found ≡ in_order loaded.listed = places read found are ∙ loaded.files in
        record {
          each = each_found read found loaded.each are;
          all = λ stream name is_stream is_name chunk there.
              let stood = there_too (first (path_of root (file_in stream name))) (last (path_of root (file_in stream name))) (sym (kept (path_of root (file_in stream name))).reads) there in
              subst (λ (l : List Listed). Contains l (file_in stream name)) (sym in_their_order) ((same_files loaded.listed (file_in stream name)).1 (loaded.all stream name is_stream (is_name, chunk, stood)));
          sorted = subst (IsStrictlySortedBy by_name) (sym in_their_order) (sorted loaded.listed);
        }

pub with_found : (root : List ℕ) (first last : Files) (read : List FileRead) (found : List Found) → With first (IsLoaded root first) (Some read) last → AllZip IsDescriptionOf read found → AreRecoveredFrom root last found
with_found root first last read found h are = found_there root first last h.0 read found h.1 are

pub what_was_loaded : (root : List ℕ) (entries : List DiskEntry) (first last : Files) (read : List FileRead) (found : List Found) → AllInvariant first
    → Execution (load_program root) entries (Return (Some read)) → Ends DiskTransition first entries last → AllZip IsDescriptionOf read found → AreRecoveredFrom root last found
what_was_loaded root entries first last read found sound way ends are =
    with_found root first last read found
    (holds_end DiskTransition (AllKept first) (With first (IsLoaded root first)) first (load_program root) (goes_loads root first first (kept_first first sound)) entries (Some read) last way ends) are

-- each point of loading
pub holds_no_more : (root : List ℕ) (first : Files) → AllInvariant first → HoldsThroughout DiskTransition (LeavesNoMore first) (With first (IsLoaded root first)) first (load_program root)
holds_no_more root first sound =
    holds_weaker DiskTransition (AllKept first) (LeavesNoMore first) (With first (IsLoaded root first)) (With first (IsLoaded root first)) first (load_program root)
    (λ now kept. no_more first now kept) (λ r now h. h) (goes_loads root first first (kept_first first sound))

pub moments_no_more : (root : List ℕ) (first : Files) (entries : List DiskEntry) (left : DiskProgram (Option (List FileRead))) → AllInvariant first → Execution (load_program root) entries left → AtCrashPoints DiskTransition (LeavesNoMore first) first entries
moments_no_more root first entries left sound way =
    holds_moments DiskTransition (LeavesNoMore first) (With first (IsLoaded root first)) first (load_program root) (holds_no_more root first sound) entries left way
