-- Loading from a disk without unsynced state logs each chunk's file on it, and changes none.
use Rattle.std.proofs.Common.{◌≡◌, ◌≢◌, ◌⊎◌, inl, inr, ℕ, ◌+◌, IsTrue, List, [], ◌∷◌, length, map, Option, Some, None, refl, sym, ◌∙◌, ap, subst, arith}
use Rattle.std.specs.Prelude.{Contains}
use Rattle.std.specs.declared.cmp.Ordering.TheVariants.{Less, Greater}
use Rattle.std.specs.Ordering.{ordering_reverse}
use Rattle.std.specs.List.{AllByRecursion}
use Rattle.std.specs.List.Sorted.{IsStrictlySortedBy}
use Rattle.std.proofs.lemmas.Map.Keys.{sorted_head, sorted_tail}
use Rattle.fwd_outside.specs.AtCrashPoints.{HoldsThroughout}
use Rattle.fwd_outside.proofs.CrashPointLemmas.{holds_bind, holds_weaker}
use Rattle.fwd_outside.specs.Disk.{IsFileName}
use Rattle.fwd_outside.specs.DiskStates.{Files}
use Rattle.fwd_chunk.specs.Check.{enough_bytes}
use Rattle.fwd_backlog.specs.declared.file_read.FileRead.{FileRead}
use Rattle.fwd_backlog.specs.declared.listed_file.Listed.{Listed}
use Rattle.fwd_backlog.specs.Serial.{is_chunk_name}
use Rattle.fwd_backlog.specs.Listing.{path_of, by_name}
use Rattle.fwd_backlog.specs.LoadProgram.{load_program}
use Rattle.fwd_backlog.specs.Recovered.{AreDurable}
use Rattle.fwd_backlog.proofs.Names.{total, sorted, same_files}
use Rattle.fwd_backlog.proofs.LoadInvariant.{ReadFrom}
use Rattle.fwd_settings.specs.declared.settings_types.AllSettings.{AllSettings}
use Rattle.fwd_model.specs.Fact.{Fact, History, Found}
use Rattle.fwd_model.specs.DeviceActions.{on_disk}
use Rattle.fwd_model.specs.RecoveryActions.{notes_files, loaded, loads_from, recovers}
use Rattle.fwd_theorem_trace.specs.Past.{logged}
use Rattle.fwd_theorem_trace.proofs.Members.{here, deeper, either, from_map}
use Rattle.fwd_theorem_crash.specs.CrashPoint.{CrashPoint, crash_point, LeadsTo}
use Rattle.fwd_theorem_crash.proofs.FreshDisk.{HasName, StillWith, IsGiven, reads_fresh}
use Rattle.fwd_theorem_crash.proofs.DiskPrograms.{Still, holds_on_disk}
use Rattle.fwd_theorem_crash.proofs.LoadedHistory.{at_file, IsReadOf, IsNewTo, LogsOnlyFiles}

-- ---- files that were read in order differ

not_less : (file : Listed) → by_name file file ≡ Less → ⊥
not_less file h = let no : Less ≡ Greater = sym h ∙ total.antisymm file file ∙ ap ordering_reverse h in cc no

abbrev file_of : FileRead → Listed
file_of read = read.file

-- each differs from the files after it
abbrev Differ : List FileRead → Type 0
Differ [] = Unit {0}
Differ (read ∷ reads) = AllByRecursion (λ (other : FileRead). read.file ≢ other.file) reads × Differ reads

less_differ : (file : Listed) (reads : List FileRead) → AllByRecursion (λ (other : Listed). by_name file other ≡ Less) (map file_of reads) → AllByRecursion (λ (other : FileRead). file ≢ other.file) reads
less_differ file [] less = tt
less_differ file (read ∷ reads) less =
    (λ same. not_less file (subst (λ (other : Listed). by_name file other ≡ Less) (sym same) less.0), less_differ file reads less.1)

sorted_differ : (reads : List FileRead) → IsStrictlySortedBy by_name (map file_of reads) → Differ reads
sorted_differ [] are = tt
sorted_differ (read ∷ reads) are =
    (less_differ read.file reads (sorted_head by_name read.file (map file_of reads) are), sorted_differ reads (sorted_tail by_name read.file (map file_of reads) are))

module _ (s : AllSettings) (first : Files) where
  -- each file of a chunk that was on the disk was logged
  abbrev pub AllNoted : History → Type 0
  AllNoted h = (root : List ℕ) → s.service.path ≡ Some root → (stream name : List ℕ) → IsFileName stream → IsFileName name → IsTrue (is_chunk_name name)
      → IsTrue (first (path_of root (at_file stream name))).there → (number : ℕ) × (bytes : List ℕ) × Contains h (Found number stream name bytes)

  -- no file changed, and only such files were logged
  abbrev pub Along : CrashPoint → Type 0
  Along m = (m.files ≡ first) × LogsOnlyFiles s first (logged m.past)

  abbrev pub LoadedTo : Option History → CrashPoint → Type 0
  LoadedTo None m = (m.files ≡ first) × (logged m.past ≡ [])
  LoadedTo (Some h) m = (m.files ≡ first) × (h ≡ logged m.past) × LogsOnlyFiles s first h × AllNoted h

  -- ---- files are logged one after another

  abbrev IsGood : FileRead → Type 0
  IsGood read = IsReadOf s first read.file read.bytes

  abbrev fact_of : ℕ → FileRead → Fact
  fact_of number read = Found number read.file.stream read.file.name read.bytes

  -- each of them is logged or still to come
  abbrev Covers : List FileRead → History → List FileRead → Type 0
  Covers all h rest = (read : FileRead) → Contains all read → ((number : ℕ) × Contains h (fact_of number read)) ⊎ Contains rest read

  new_still : (number : ℕ) (read : FileRead) (h : History) (rest : List FileRead) → AllByRecursion (λ (other : FileRead). read.file ≢ other.file) rest → AllByRecursion (λ (other : FileRead). IsNewTo h other.file) rest
      → AllByRecursion (λ (other : FileRead). IsNewTo (fact_of number read ∷ h) other.file) rest
  new_still number read h [] differ new = tt
  new_still number read h (other ∷ rest) differ new = ((differ.0, new.0), new_still number read h rest differ.1 new.1)

  covers_next : (all : List FileRead) (number : ℕ) (read : FileRead) (h : History) (rest : List FileRead) → Covers all h (read ∷ rest) → Covers all (fact_of number read ∷ h) rest
  covers_next all number read h rest covers other among = by (covers other among)
    where
      by : ((n : ℕ) × Contains h (fact_of n other)) ⊎ Contains (read ∷ rest) other → ((n : ℕ) × Contains (fact_of number read ∷ h) (fact_of n other)) ⊎ Contains rest other
      by (inl before) = inl (before.0, deeper (fact_of number read) h (fact_of before.0 other) before.1)
      by (inr now) = elim (either read rest other now) [
        | inl same ↦ inl (number, subst (λ (one : FileRead). Contains (fact_of number read ∷ h) (fact_of number one)) same (here (fact_of number read) h))
        | inr later ↦ inr later
      ]

  goes_finds : (all : List FileRead) (number : ℕ) (rest : List FileRead) (h : History) (m : CrashPoint) → logged m.past ≡ h → m.files ≡ first → number ≡ length h + 1 → LogsOnlyFiles s first h
      → AllByRecursion IsGood rest → AllByRecursion (λ (read : FileRead). IsNewTo h read.file) rest → Differ rest → Covers all h rest
      → ((now : History) → Covers all now [] → AllNoted now) → HoldsThroughout LeadsTo Along LoadedTo m (notes_files number rest h)
  goes_finds all number [] h m is same at gathered good new differ covers noted_all =
      ((same, subst (LogsOnlyFiles s first) (sym is) gathered), (same, sym is, gathered, noted_all h covers))
  goes_finds all number (read ∷ rest) h m is same at gathered good new differ covers noted_all = (
    (same, subst (LogsOnlyFiles s first) (sym is) gathered),
    λ answer during after steps.
        let inside : logged during.past ≡ h = ap logged steps.1 ∙ is in
        let behind : logged after.past ≡ fact_of number read ∷ h = ap logged steps.2 ∙ ap (λ (x : History). fact_of number read ∷ x) is in (
          (steps.0.0 ∙ same, subst (LogsOnlyFiles s first) (sym inside) gathered),
          goes_finds all (number + 1) rest (fact_of number read ∷ h) after behind (steps.0.1 ∙ same) (omega (arith, at)) (at, good.0, new.0, gathered) good.1
              (new_still number read h rest differ.0 new.1) differ.1 (covers_next all number read h rest covers) noted_all,
        ),
  )

  -- ---- all files that were read

  module _ (root : List ℕ) (under : s.service.path ≡ Some root) where
    good_reads : (reads : List FileRead) → AllByRecursion (λ (read : FileRead). ReadFrom first (path_of root read.file) 0 enough_bytes read.bytes) reads → AllByRecursion HasName reads → AllByRecursion IsGood reads
    good_reads [] there named = tt
    good_reads (read ∷ reads) there named =
        (record { root = root; under = under; named = named.0; all = there.0.0; stands = there.0.1; part = there.0.2 }, good_reads reads there.1 named.1)

    new_all : (reads : List FileRead) → AllByRecursion (λ (read : FileRead). IsNewTo [] read.file) reads
    new_all [] = tt
    new_all (read ∷ reads) = (tt, new_all reads)

    all_noted : (reads : List FileRead) → IsGiven root first reads → (h : History) → Covers reads h [] → AllNoted h
    all_noted reads given h covers other also stream name is_stream is_name chunk there =
        let roots : other ≡ root = cc (sym also ∙ under) in
        let file : Listed = at_file stream name in
        let stood : IsTrue (first (path_of root file)).there = subst (λ (r : List ℕ). IsTrue (first (path_of r file)).there) roots there in
        let listed = (same_files given.loaded.listed file).1 (given.loaded.all stream name is_stream (is_name, chunk, stood)) in
        let read = from_map file_of reads file (subst (λ (l : List Listed). Contains l file) (sym given.loaded.files) listed) in
        by read.0 read.2 (covers read.0 read.1)
      where
        by : (read : FileRead) → read.file ≡ at_file stream name → ((number : ℕ) × Contains h (fact_of number read)) ⊎ Contains [] read → (number : ℕ) × (bytes : List ℕ) × Contains h (Found number stream name bytes)
        by read is (inl was) = (was.0, read.bytes, subst (λ (f : Listed). Contains h (Found was.0 f.stream f.name read.bytes)) is was.1)
        by read is (inr none) = absurd (omega (arith, none.1))

    goes_loaded : (r : Option (List FileRead)) (m : CrashPoint) → Still [] (StillWith first (IsGiven root first) r) m → HoldsThroughout LeadsTo Along LoadedTo m (loaded r)
    goes_loaded None m still = ((still.1, subst (LogsOnlyFiles s first) (sym still.0) tt), (still.1, still.0))
    goes_loaded (Some reads) m still =
        let given = still.1.1 in
        goes_finds reads 1 reads [] m still.0 still.1.0 (omega arith) tt (good_reads reads given.loaded.each given.named) (new_all reads)
        (sorted_differ reads (subst (IsStrictlySortedBy by_name) (sym given.loaded.files) (sorted given.loaded.listed))) (λ read among. inr among) (all_noted reads given)

  -- each crash point of loading, and its end
  pub goes_loading : AreDurable first → HoldsThroughout LeadsTo Along LoadedTo (crash_point [] first) (recovers s)
  unfolding recovers
  goes_loading fresh = by s.service.path refl
    where
      by : (path : Option (List ℕ)) → s.service.path ≡ path → HoldsThroughout LeadsTo Along LoadedTo (crash_point [] first) (loads_from path)
      by None is = ((refl, tt), (refl, refl, tt, λ root under. let no : None ≡ Some root = sym is ∙ under in absurd (cc no)))
      by (Some root) is =
          let read : HoldsThroughout LeadsTo Along (λ (r : Option (List FileRead)) (m : CrashPoint). Still [] (StillWith first (IsGiven root first) r) m) (crash_point [] first) (on_disk (load_program root)) =
          holds_weaker LeadsTo (Still [] (λ (files : Files). files ≡ first)) Along (λ (r : Option (List FileRead)) (m : CrashPoint). Still [] (StillWith first (IsGiven root first) r) m)
          (λ (r : Option (List FileRead)) (m : CrashPoint). Still [] (StillWith first (IsGiven root first) r) m) (crash_point [] first) (on_disk (load_program root))
          (λ m still. (still.1, subst (LogsOnlyFiles s first) (sym still.0) tt)) (λ r m still. still)
          (holds_on_disk [] (λ (files : Files). files ≡ first) (StillWith first (IsGiven root first)) (crash_point [] first) (load_program root) refl (reads_fresh first fresh root)) in
          holds_bind LeadsTo Along (λ (r : Option (List FileRead)) (m : CrashPoint). Still [] (StillWith first (IsGiven root first) r) m) LoadedTo (crash_point [] first) (on_disk (load_program root)) loaded read (goes_loaded root is)
