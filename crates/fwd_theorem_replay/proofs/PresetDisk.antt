-- A disk in memory whose log only puts files and sets failing calls has no unsynced state.
use Rattle.std.proofs.Common.{◌≡◌, ◌⊎◌, inl, inr, ℕ, Bool, true, false, if◌then◌else◌, List, [], ◌∷◌, ◌++◌, map, refl, sym, ◌∙◌, ap, subst}
use Rattle.std.specs.Str.{bytes_eq}
use Rattle.std.specs.List.{AllByRecursion}
use Rattle.std.proofs.lemmas.Slice.Eq.{bytes_eq-Decides}
use Rattle.fwd_outside.specs.AtCrashPoints.{Ends}
use Rattle.fwd_outside.specs.Disk.{DiskEntry}
use Rattle.fwd_outside.specs.File.{FileState, whole, absent}
use Rattle.fwd_outside.specs.DiskStates.{Files, OnFile, DiskTransition, initial_files}
use Rattle.fwd_disk_mem.specs.FileTable.{MemFile}
use Rattle.fwd_disk_mem.specs.declared.entry.MemEntry.{MemEntry}
use Rattle.fwd_disk_mem.specs.declared.entry.MemEntry.TheVariants.{Place, WriteAt, Sync, Remove, Read, List as Listed, Preset, FailAt}
use Rattle.fwd_disk_mem.specs.Entry.{given, entries_of, step, run, files_of, IsPlayed}
use Rattle.fwd_disk_mem.specs.Images.{file_settings}
use Rattle.fwd_disk_mem.proofs.Honesty.{may_hold}
use Rattle.fwd_disk_mem.proofs.CallTrace.{played_both}
use Rattle.fwd_backlog.specs.Recovered.{AreDurable}
use Rattle.fwd_theorem_replay.proofs.Entries.{entries_both, ends_between}

abbrev pub IsSetting : MemEntry → Type 0
IsSetting (Preset name bytes) = Unit {0}
IsSetting (FailAt number) = Unit {0}
IsSetting call = ⊥

abbrev pub AreSettings : List MemEntry → Type 0
AreSettings calls = AllByRecursion IsSetting calls

pub set_both : (xs ys : List MemEntry) → AreSettings xs → AreSettings ys → AreSettings (xs ++ ys)
set_both [] ys first second = second
set_both (call ∷ xs) ys first second = (first.0, set_both xs ys first.1 second)

pub set_each : {X : Type 0} (call_log : X → MemEntry) → ((x : X) → IsSetting (call_log x)) → (xs : List X) → AreSettings (map call_log xs)
set_each call_log each [] = tt
set_each call_log each (x ∷ xs) = (each x, set_each call_log each xs)

pub set_presets : (files : List MemFile) → AreSettings (file_settings files)
set_presets files = set_each (λ (file : MemFile). Preset file.name file.bytes) (λ file. tt) files

-- ---- no unsynced state

abbrev IsSure : FileState → Type 0
IsSure state = (state ≡ absent) ⊎ ((bytes : List ℕ) × (state ≡ whole bytes))

sure_behind : (calls : List MemEntry) → AreSettings calls → (name : List ℕ) (state : FileState) → IsSure state → IsSure (run name state calls)
sure_behind [] set name state sure = sure
sure_behind (Preset other bytes ∷ calls) set name state sure = sure_behind calls set.1 name (step name state (Preset other bytes)) (by (bytes_eq other name))
  where
    by : (b : Bool) → IsSure (if b then whole bytes else state)
    by true = inr (bytes, refl)
    by false = sure
sure_behind (FailAt number ∷ calls) set name state sure = sure_behind calls set.1 name state sure
sure_behind (Place _ _ _ ∷ calls) set name state sure = absurd set.0
sure_behind (WriteAt _ _ _ _ ∷ calls) set name state sure = absurd set.0
sure_behind (Sync _ _ ∷ calls) set name state sure = absurd set.0
sure_behind (Remove _ _ ∷ calls) set name state sure = absurd set.0
sure_behind (Read _ _ _ _ ∷ calls) set name state sure = absurd set.0
sure_behind (Listed _ _ ∷ calls) set name state sure = absurd set.0

pub fresh_files : (calls : List MemEntry) → AreSettings calls → AreDurable (files_of calls)
fresh_files calls set name = sure_behind calls set name absent (inl refl)

-- ---- the files after a list, in two parts

pub run_both : (xs ys : List MemEntry) (name : List ℕ) (state : FileState) → run name state (xs ++ ys) ≡ run name (run name state xs) ys
run_both [] ys name state = refl
run_both (call ∷ xs) ys name state = run_both xs ys name (step name state call)

-- setting the failing calls changes no file
pub fails_change_nothing : (numbers : List ℕ) (name : List ℕ) (state : FileState) → run name state (map (λ (number : ℕ). FailAt number) numbers) ≡ state
fails_change_nothing [] name state = refl
fails_change_nothing (number ∷ numbers) name state = fails_change_nothing numbers name state

-- ---- the disk steps from there to the effect of its calls

set_played : (before calls : List MemEntry) → AreSettings calls → IsPlayed before calls
set_played before [] set = tt
set_played before (Preset name bytes ∷ calls) set = (tt, set_played (before ++ Preset name bytes ∷ []) calls set.1)
set_played before (FailAt number ∷ calls) set = (tt, set_played (before ++ FailAt number ∷ []) calls set.1)
set_played before (Place _ _ _ ∷ calls) set = absurd set.0
set_played before (WriteAt _ _ _ _ ∷ calls) set = absurd set.0
set_played before (Sync _ _ ∷ calls) set = absurd set.0
set_played before (Remove _ _ ∷ calls) set = absurd set.0
set_played before (Read _ _ _ _ ∷ calls) set = absurd set.0
set_played before (Listed _ _ ∷ calls) set = absurd set.0

set_at : (other bytes : List ℕ) (old during new : Files) → OnFile other (λ _ inside after. (inside ≡ whole bytes) × (after ≡ whole bytes)) old during new
    → (name : List ℕ) → new name ≡ (if bytes_eq other name then whole bytes else old name)
set_at other bytes old during new steps name = by (bytes_eq other name) refl
  where
    by : (b : Bool) → bytes_eq other name ≡ b → new name ≡ (if b then whole bytes else old name)
    by true is = subst (λ (n : List ℕ). new n ≡ whole bytes) ((bytes_eq-Decides other name).0 is) steps.file.1
    by false is = steps.others name (λ same. let no : true ≡ false = sym ((bytes_eq-Decides other name).1 (sym same)) ∙ is in cc no)

set_ends : (calls : List MemEntry) → AreSettings calls → (old new : Files) → Ends DiskTransition old (entries_of calls) new → (name : List ℕ) → new name ≡ run name (old name) calls
set_ends [] set old new ends name = ap (λ (files : Files). files name) ends
set_ends (Preset other bytes ∷ calls) set old new ends name =
    set_ends calls set.1 ends.1 new ends.3 name ∙ ap (λ (state : FileState). run name state calls) (set_at other bytes old ends.0 ends.1 ends.2 name)
set_ends (FailAt number ∷ calls) set old new ends name = set_ends calls set.1 ends.1 new ends.3 name ∙ ap (λ (files : Files). run name (files name) calls) ends.2.1
set_ends (Place _ _ _ ∷ calls) set old new ends name = absurd set.0
set_ends (WriteAt _ _ _ _ ∷ calls) set old new ends name = absurd set.0
set_ends (Sync _ _ ∷ calls) set old new ends name = absurd set.0
set_ends (Remove _ _ ∷ calls) set old new ends name = absurd set.0
set_ends (Read _ _ _ _ ∷ calls) set old new ends name = absurd set.0
set_ends (Listed _ _ ∷ calls) set old new ends name = absurd set.0

pub disk_ends : (set calls : List MemEntry) → AreSettings set → IsPlayed set calls → Ends DiskTransition (files_of set) (entries_of calls) (files_of (set ++ calls))
disk_ends set calls are played =
    let all = may_hold (set ++ calls) (played_both [] set calls (set_played [] set are) played) in
    let parts = ends_between (entries_of set) (entries_of calls) (initial_files given) (files_of (set ++ calls)) (subst (λ (es : List DiskEntry). Ends DiskTransition (initial_files given) es (files_of (set ++ calls))) (entries_both set calls) all) in
    let first : parts.0 ≡ files_of set = λ i name. set_ends set are (initial_files given) parts.0 parts.1 name i in
    subst (λ (files : Files). Ends DiskTransition files (entries_of calls) (files_of (set ++ calls))) first parts.2
