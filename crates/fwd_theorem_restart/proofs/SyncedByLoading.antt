-- Loading fsyncs each chunk's file before it reads it.
use Rattle.std.proofs.Common.{◌≡◌, ◌⊎◌, inl, inr, ⊎_elim, ℕ, IsTrue, List, [], ◌∷◌, ◌++◌, map, Option, Some, None, refl, sym, ◌∙◌, ap, subst, arith}
use Rattle.std.specs.Prelude.{Contains}
use Rattle.std.proofs.lemmas.List.Elements.{Contains-append_left, Contains-append_right, Contains-append_cases}
use Rattle.fwd_outside.specs.Program.{Entry, entry, Program, Return, Ask, bind, with_value, Execution}
use Rattle.fwd_outside.specs.AtCrashPoints.{Ends}
use Rattle.fwd_outside.specs.Disk.{DiskEntry, DiskProgram, Sync, reads}
use Rattle.fwd_outside.specs.DiskStates.{Files, DiskTransition}
use Rattle.fwd_outside.proofs.CrashPointLemmas.{holds_end}
use Rattle.fwd_outside.proofs.Invariant.{AllInvariant}
use Rattle.fwd_chunk.specs.Check.{enough_bytes}
use Rattle.fwd_backlog.specs.declared.listed_file.Listed.{Listed}
use Rattle.fwd_backlog.specs.declared.file_read.FileRead.{FileRead}
use Rattle.fwd_backlog.specs.Listing.{path_of, IsNamed, list_files_program, in_order}
use Rattle.fwd_backlog.specs.LoadProgram.{file_read, read_synced_program, read_files_program, load_program}
use Rattle.fwd_backlog.proofs.Names.{same_files}
use Rattle.fwd_backlog.proofs.LoadInvariant.{AllKept, kept_first, With}
use Rattle.fwd_backlog.proofs.LoadedFiles.{IsLoaded, goes_loads}
use Rattle.fwd_settings.specs.declared.settings_types.AllSettings.{AllSettings}
use Rattle.fwd_model.specs.Fact.{History}
use Rattle.fwd_model.specs.Trace.{Action, TraceEntry, OnDisk}
use Rattle.fwd_model.specs.DeviceActions.{on_disk}
use Rattle.fwd_model.specs.RecoveryActions.{loaded, loads_from, recovers}
use Rattle.fwd_theorem_trace.proofs.Members.{here, deeper, either}
use Rattle.fwd_theorem_crash.specs.CrashPoint.{CrashPoint, crash_point, LeadsTo}

-- ---- the parts of a program's calls

record Parts {C R T : Type 0} {A : C → Type 0} (p : Program C A R) (next : R → Program C A T) (es : List (Entry C A)) (y : T) : Type 0 where
  x : R
  own : List (Entry C A)
  more : List (Entry C A)
  is : es ≡ own ++ more
  first : Execution p own (Return x)
  second : Execution (next x) more (Return y)

parts : {C R T : Type 0} {A : C → Type 0} (p : Program C A R) (next : R → Program C A T) (es : List (Entry C A)) (y : T) → Execution (bind p next) es (Return y) → Parts p next es y
parts (Return x) next es y way = record { x = x; own = []; more = es; is = refl; first = refl; second = way }
parts (Ask call go) next [] y way = absurd (cc way)
parts {C = C} {A = A} (Ask call go) next (e ∷ es) y way =
    let rest = parts (go way.0) next es y way.2 in
    record { x = rest.x; own = e ∷ rest.own; more = rest.more; is = ap (λ (l : List (Entry C A)). e ∷ l) rest.is; first = (way.0, way.1, rest.first); second = rest.second }

-- a program that failed gives nothing
none_given : {C R : Type 0} {A : C → Type 0} (es : List (Entry C A)) (x : R) → Execution {C = C} {A = A} (Return None) es (Return (Some x)) → ⊥
none_given [] x way = absurd (cc way)
none_given (e ∷ es) x way = absurd way

-- ---- the files that are read

abbrev WasSynced : List DiskEntry → List ℕ → Type 0
WasSynced es path = Contains es (entry (Sync path) (Some tt))

synced_first : (path : List ℕ) (es : List DiskEntry) (bytes : List ℕ) → Execution (read_synced_program path) es (Return (Some bytes)) → WasSynced es path
synced_first path [] bytes way = absurd (cc way)
synced_first path (e ∷ es) bytes way = by way.0 way.1 way.2
  where
    by : (answer : Option (Unit {0})) → e ≡ entry (Sync path) answer → Execution (with_value (λ _. reads path 0 enough_bytes) answer) es (Return (Some bytes)) → WasSynced (e ∷ es) path
    by None is rest = absurd (none_given es bytes rest)
    by (Some done) is rest = subst (λ (x : DiskEntry). Contains (x ∷ es) (entry (Sync path) (Some tt))) (sym is) (here (entry (Sync path) (Some tt)) es)

abbrev the_file : FileRead → Listed
the_file read = read.file

map_append : (xs ys : List FileRead) → map the_file (xs ++ ys) ≡ map the_file xs ++ map the_file ys
map_append [] ys = refl
map_append (x ∷ xs) ys = ap (λ (l : List Listed). the_file x ∷ l) (map_append xs ys)

module _ (root : List ℕ) where
  -- each file was read before, or fsynced among these calls
  abbrev AreSynced : List FileRead → List DiskEntry → List FileRead → Type 0
  AreSynced so_far es read = (file : Listed) → Contains (map the_file read) file → Contains (map the_file so_far) file ⊎ WasSynced es (path_of root file)

  all_synced : (files : List Listed) (so_far read : List FileRead) (es : List DiskEntry) → Execution (read_files_program root files so_far) es (Return (Some read)) → AreSynced so_far es read
  all_synced [] so_far read [] way file has =
      let same : Some so_far ≡ Some read = cc way in
      let is : so_far ≡ read = cc same in
      inl (subst (λ (l : List FileRead). Contains (map the_file l) file) (sym is) has)
  all_synced [] so_far read (e ∷ es) way file has = absurd way
  all_synced (f ∷ files) so_far read es way file has =
      let next : List ℕ → DiskProgram (Option (List FileRead)) = λ bytes. read_files_program root files (so_far ++ file_read f bytes ∷ []) in
      let both = parts (read_synced_program (path_of root f)) (with_value next) es (Some read) way in
      by (all_synced files) both.x both.own both.more both.is both.first both.second
    where
      in_own : (own more : List DiskEntry) → es ≡ own ++ more → WasSynced own (path_of root f) → WasSynced es (path_of root f)
      in_own own more is has = subst (λ (l : List DiskEntry). WasSynced l (path_of root f)) (sym is) (Contains-append_left own more (entry (Sync (path_of root f)) (Some tt)) has)

      by : ((sofar all : List FileRead) (some : List DiskEntry) → Execution (read_files_program root files sofar) some (Return (Some all)) → AreSynced sofar some all) → (x : Option (List ℕ)) (own more : List DiskEntry) → es ≡ own ++ more → Execution (read_synced_program (path_of root f)) own (Return x)
          → Execution (with_value (λ bytes. read_files_program root files (so_far ++ file_read f bytes ∷ [])) x) more (Return (Some read)) → Contains (map the_file so_far) file ⊎ WasSynced es (path_of root file)
      by others None own more is first second = absurd (none_given more read second)
      by others (Some bytes) own more is first second = now (others (so_far ++ file_read f bytes ∷ []) read more second file has)
        where
          among : Contains (map the_file so_far ++ f ∷ []) file → Contains (map the_file so_far) file ⊎ WasSynced es (path_of root file)
          among there = which (Contains-append_cases (map the_file so_far) (f ∷ []) file there)
            where
              which : Contains (map the_file so_far) file ⊎ Contains (f ∷ []) file → Contains (map the_file so_far) file ⊎ WasSynced es (path_of root file)
              which (inl old) = inl old
              which (inr new) =
                  ⊎_elim (λ (same : f ≡ file). inr (subst (λ (x : Listed). WasSynced es (path_of root x)) same (in_own own more is (synced_first (path_of root f) own bytes first))))
                  (λ (none : Contains [] file). absurd (omega (arith, none.1))) (either f [] file new)

          now : Contains (map the_file (so_far ++ file_read f bytes ∷ [])) file ⊎ WasSynced more (path_of root file) → Contains (map the_file so_far) file ⊎ WasSynced es (path_of root file)
          now (inl old) = among (subst (λ (l : List Listed). Contains l file) (map_append so_far (file_read f bytes ∷ [])) old)
          now (inr later) = inr (subst (λ (l : List DiskEntry). WasSynced l (path_of root file)) (sym is) (Contains-append_right own more (entry (Sync (path_of root file)) (Some tt)) later))

  loading_syncs : (es : List DiskEntry) (read : List FileRead) → Execution (load_program root) es (Return (Some read)) → (file : Listed) → Contains (map the_file read) file → WasSynced es (path_of root file)
  loading_syncs es read way file has =
      let next : List Listed → DiskProgram (Option (List FileRead)) = λ files. read_files_program root (in_order files) [] in
      let both = parts (list_files_program root) (with_value next) es (Some read) way in
      by both.x both.own both.more both.is both.second
    where
      by : (x : Option (List Listed)) (own more : List DiskEntry) → es ≡ own ++ more → Execution (with_value (λ files. read_files_program root (in_order files) []) x) more (Return (Some read)) → WasSynced es (path_of root file)
      by None own more is second = absurd (none_given more read second)
      by (Some files) own more is second =
          ⊎_elim (λ (none : Contains [] file). absurd (omega (arith, none.1)))
          (λ (later : WasSynced more (path_of root file)). subst (λ (l : List DiskEntry). WasSynced l (path_of root file)) (sym is) (Contains-append_right own more (entry (Sync (path_of root file)) (Some tt)) later))
          (all_synced (in_order files) [] read more second file has)

  -- a chunk's file that was there is fsynced
  there_synced : (first last : Files) (es : List DiskEntry) (read : List FileRead) → AllInvariant first → Execution (load_program root) es (Return (Some read)) → Ends DiskTransition first es last
      → (path : Listed) → IsNamed path → IsTrue (first (path_of root path)).there → WasSynced es (path_of root path)
  there_synced first last es read sound way ends path named there =
      let is = holds_end DiskTransition (AllKept first) (With first (IsLoaded root first)) first (load_program root) (goes_loads root first first (kept_first first sound)) es (Some read) last way ends in
      let found = is.1 in
      let listed : Contains found.listed path = found.all path.stream path.name named.stream (named.name, named.chunk, there) in
      let ordered : Contains (in_order found.listed) path = (same_files found.listed path).1 listed in
      loading_syncs es read way path (subst (λ (l : List Listed). Contains l path) (sym found.files) ordered)

-- ---- as a part of a run

abbrev as_call : DiskEntry → TraceEntry
as_call e = entry (OnDisk e.call) e.answer

in_run : (es : List DiskEntry) (d : DiskEntry) → Contains es d → Contains (map as_call es) (as_call d)
in_run [] d has = absurd (omega (arith, has.1))
in_run (e ∷ es) d has =
    ⊎_elim (λ (same : e ≡ d). subst (λ (x : DiskEntry). Contains (map as_call (e ∷ es)) (as_call x)) same (here (as_call e) (map as_call es)))
    (λ (later : Contains es d). deeper (as_call e) (map as_call es) (as_call d) (in_run es d later)) (either e es d has)

-- the calls of a program on the disk, and those that follow
record DiskParts {R T : Type 0} (p : DiskProgram R) (next : R → Action T) (es : List TraceEntry) (y : T) (m : CrashPoint) : Type 0 where
  x : R
  own : List DiskEntry
  more : List TraceEntry
  is : es ≡ map as_call own ++ more
  first : Execution p own (Return x)
  second : Execution (next x) more (Return y)
  last : Files
  along : Ends DiskTransition m.files own last

disk_parts : {R T : Type 0} (p : DiskProgram R) (next : R → Action T) (es : List TraceEntry) (y : T) (m end : CrashPoint) → Execution (bind (on_disk p) next) es (Return y) → Ends LeadsTo m es end → DiskParts p next es y m
disk_parts (Return x) next es y m end way along = record { x = x; own = []; more = es; is = refl; first = refl; second = way; last = m.files; along = refl }
disk_parts (Ask call go) next [] y m end way along = absurd (cc way)
disk_parts (Ask call go) next (e ∷ es) y m end way along =
    let same : e ≡ entry (OnDisk call) way.0 = way.1 in
    let passes = subst (λ (x : TraceEntry). LeadsTo x.call x.answer m along.0 along.1) same along.2 in
    let rest = disk_parts (go way.0) next es y along.1 end way.2 along.3 in
    record {
      x = rest.x;
      own = entry call way.0 ∷ rest.own;
      more = rest.more;
      is = ap (λ (x : TraceEntry). x ∷ es) same ∙ ap (λ (l : List TraceEntry). entry (OnDisk call) way.0 ∷ l) rest.is;
      first = (way.0, refl, rest.first);
      second = rest.second;
      last = rest.last;
      along = (along.0.files, along.1.files, passes.0.1, rest.along);
    }

-- a run that loads fsyncs each chunk's file that is there
pub loaded_synced : (s : AllSettings) (root : List ℕ) (first : Files) (es : List TraceEntry) (found : History) (end : CrashPoint) → s.service.path ≡ Some root → AllInvariant first → Execution (recovers s) es (Return (Some found))
    → Ends LeadsTo (crash_point [] first) es end → (path : Listed) → IsNamed path → IsTrue (first (path_of root path)).there → Contains es (entry (OnDisk (Sync (path_of root path))) (Some tt))
unfolding recovers
loaded_synced s root first es found end at sound way along path named there =
    let from = subst (λ (o : Option (List ℕ)). Execution (loads_from o) es (Return (Some found))) at way in
    let both = disk_parts (load_program root) loaded es (Some found) (crash_point [] first) end from along in
    by both.x both.own both.more both.is both.first both.second both.last both.along
  where
    by : (x : Option (List FileRead)) (own : List DiskEntry) (more : List TraceEntry) → es ≡ map as_call own ++ more → Execution (load_program root) own (Return x) → Execution (loaded x) more (Return (Some found))
        → (last : Files) → Ends DiskTransition first own last → Contains es (entry (OnDisk (Sync (path_of root path))) (Some tt))
    by None own more is first_way second last led = absurd (none_given more found second)
    by (Some read) own more is first_way second last led =
        let synced = there_synced root first last own read sound first_way led path named there in
        let call : TraceEntry = entry (OnDisk (Sync (path_of root path))) (Some tt) in
        subst (λ (l : List TraceEntry). Contains l call) (sym is) (Contains-append_left (map as_call own) more call (in_run own (entry (Sync (path_of root path)) (Some tt)) synced))
