-- Loading from a disk as a killed process left it: it reads what it would read if all of it were fsynced.
use Rattle.std.proofs.Common.{◌≡◌, ◌≢◌, ◌⊎◌, inl, inr, ℕ, ◌+◌, Bool, true, false, IsTrue, List, [], ◌∷◌, ◌++◌, Option, Some, None, refl, sym, ◌∙◌, ap, subst}
use Rattle.std.specs.Prelude.{All, Contains, if◌then◌else◌}
use Rattle.fwd_outside.specs.Program.{Entry, Program, Return, Ask, bind, and_then, with_value, Execution}
use Rattle.fwd_outside.specs.AtCrashPoints.{Ends, AtCrashPoints}
use Rattle.fwd_outside.specs.Disk.{DiskCall, DiskAnswer, DiskProgram, Place, WriteAt, Sync, Remove, Read, ListNames, Preset, FailAt, IsFileName, syncs, reads, lists}
use Rattle.fwd_outside.specs.File.{FileState, FileInvariant, IsPostCrash, content, whole, absent}
use Rattle.fwd_outside.specs.DiskStates.{Files, DiskTransition, OnFile, SyncTransition, ReadAnswer, AreNamesIn, ListAnswer, IsUnder}
use Rattle.fwd_outside.proofs.Invariant.{AllInvariant, invariant_step, read_is_post_crash_state}
use Rattle.fwd_chunk.specs.Check.{enough_bytes}
use Rattle.fwd_backlog.specs.declared.listed_file.Listed.{Listed}
use Rattle.fwd_backlog.specs.declared.file_read.FileRead.{FileRead}
use Rattle.fwd_backlog.specs.Listing.{folder_of, path_of, chunks_in, list_folders_program, list_files_program, in_order}
use Rattle.fwd_backlog.specs.LoadProgram.{file_read, read_synced_program, read_files_program, load_program}
use Rattle.fwd_backlog.specs.Recovered.{AreDurable}
use Rattle.fwd_settings.specs.declared.settings_types.AllSettings.{AllSettings}
use Rattle.fwd_model.specs.Fact.{Fact, History, Found}
use Rattle.fwd_model.specs.Trace.{Call, Answer, Action, TraceEntry, OnLoop, OnDisk, OnFiles, OnKeeper, Note}
use Rattle.fwd_model.specs.DeviceActions.{on_disk}
use Rattle.fwd_model.specs.RecoveryActions.{notes_files, loaded, loads_from, recovers}
use Rattle.fwd_theorem_crash.specs.CrashPoint.{CrashPoint, crash_point, Changes, LeadsTo}

-- ---- the same files, as if all that a read returns were fsynced

abbrev by_there : Bool → List ℕ → FileState
by_there there bytes = if there then whole bytes else absent

abbrev durable_state : FileState → FileState
durable_state file = by_there file.there file.bytes

abbrev pub durable_files : Files → Files
durable_files files name = durable_state (files name)

abbrev pub durable_point : CrashPoint → CrashPoint
durable_point m = crash_point m.past (durable_files m.files)

pub are_durable : (files : Files) → AreDurable (durable_files files)
are_durable files name = by (files name).there
  where
    by : (there : Bool) → (by_there there (files name).bytes ≡ absent) ⊎ ((bytes : List ℕ) × (by_there there (files name).bytes ≡ whole bytes))
    by true = inr ((files name).bytes, refl)
    by false = inl refl

same_there : (file : FileState) → (durable_state file).there ≡ file.there
same_there file = by file.there
  where
    by : (there : Bool) → (by_there there file.bytes).there ≡ there
    by true = refl
    by false = refl

same_content : (file : FileState) → content (durable_state file) ≡ content file
same_content file = by file.there
  where
    by : (there : Bool) → content (by_there there file.bytes) ≡ (if there then Some file.bytes else None)
    by true = refl
    by false = refl

-- what a read returns may be left by a crash
pub images : (files : Files) → AllInvariant files → (name : List ℕ) → IsPostCrash (files name) (content (durable_files files name))
images files sound name = subst (IsPostCrash (files name)) (sym (same_content (files name))) (read_is_post_crash_state (files name) (sound name))

whole_there : (file : FileState) → IsTrue file.there → durable_state file ≡ whole file.bytes
whole_there file there = ap (λ (b : Bool). by_there b file.bytes) there

-- ---- a call that reads, or syncs, has the same answer

abbrev pub IsReading : Call → Type 0
IsReading (OnLoop call) = Unit {0}
IsReading (OnFiles call) = Unit {0}
IsReading (OnKeeper call) = Unit {0}
IsReading (Note fact) = Unit {0}
IsReading (OnDisk (Place name bytes)) = ⊥
IsReading (OnDisk (WriteAt name at bytes)) = ⊥
IsReading (OnDisk (Sync name)) = Unit {0}
IsReading (OnDisk (Remove name)) = ⊥
IsReading (OnDisk (Read name at len)) = Unit {0}
IsReading (OnDisk (ListNames folder)) = Unit {0}
IsReading (OnDisk (Preset name bytes)) = ⊥
IsReading (OnDisk (FailAt number)) = ⊥

read_same : (at len : ℕ) (answer : Option (List ℕ)) (file : FileState) → ReadAnswer at len answer file → ReadAnswer at len answer (durable_state file)
read_same at len (Some bytes) file given =
    subst (λ (f : FileState). ReadAnswer at len (Some bytes) f) (sym (whole_there file given.0)) (refl, given.1)
read_same at len None file given = tt

is_there : (files : Files) (file : List ℕ) → IsTrue (files file).there → IsTrue (durable_files files file).there
is_there files file there = same_there (files file) ∙ there

was_there : (files : Files) (file : List ℕ) → IsTrue (durable_files files file).there → IsTrue (files file).there
was_there files file there = sym (same_there (files file)) ∙ there

abbrev HasFile : List ℕ → Files → List ℕ → Type 0
HasFile folder files name = (file : List ℕ) × IsTrue (files file).there × IsUnder folder name file

names_same : (folder : List ℕ) (files : Files) (names : List (List ℕ)) → All (HasFile folder files) names → All (HasFile folder (durable_files files)) names
names_same folder files names all k name within =
    let has = all k name within in
    (has.0, is_there files has.0 has.1, has.2)

list_same : (folder : List ℕ) (answer : Option (List (List ℕ))) (files : Files) → ListAnswer folder answer files → ListAnswer folder answer (durable_files files)
list_same folder (Some names) files given = record {
  each = names_same folder files names given.each;
  all = λ name file plain there under. given.all name file plain (was_there files file there) under;
}
list_same folder None files given = tt

sync_same : (answer : Option (Unit {0})) (old during new : FileState) → SyncTransition answer old during new → SyncTransition answer (durable_state old) (durable_state during) (durable_state new)
sync_same (Some done) old during new steps = (
  same_there old ∙ steps.0,
  ap durable_state steps.1,
  ap durable_state steps.2 ∙ ap (λ (f : FileState). whole f.bytes) (sym (whole_there old steps.0)),
)
sync_same None old during new steps = (ap durable_state steps.0, ap durable_state steps.1)

disk_same : (call : DiskCall) (answer : DiskAnswer call) (old during new : Files) → IsReading (OnDisk call) → DiskTransition call answer old during new
    → DiskTransition call answer (durable_files old) (durable_files during) (durable_files new)
disk_same (Sync name) answer old during new may steps = record {
  file = sync_same answer (old name) (during name) (new name) steps.file;
  others_during = λ n ne. ap durable_state (steps.others_during n ne);
  others = λ n ne. ap durable_state (steps.others n ne);
}
disk_same (Read name at len) answer old during new may steps =
    (read_same at len answer (old name) steps.0, (ap durable_files steps.1.0, ap durable_files steps.1.1))
disk_same (ListNames folder) answer old during new may steps =
    (list_same folder answer old steps.0, (ap durable_files steps.1.0, ap durable_files steps.1.1))
disk_same (Place name bytes) answer old during new may steps = absurd may
disk_same (WriteAt name at bytes) answer old during new may steps = absurd may
disk_same (Remove name) answer old during new may steps = absurd may
disk_same (Preset name bytes) answer old during new may steps = absurd may
disk_same (FailAt number) answer old during new may steps = absurd may

changes_same : (call : Call) (answer : Answer call) (old during new : Files) → IsReading call → Changes call answer old during new → Changes call answer (durable_files old) (durable_files during) (durable_files new)
changes_same (OnLoop call) answer old during new may same = (ap durable_files same.0, ap durable_files same.1)
changes_same (OnDisk call) answer old during new may steps = (steps.0, disk_same call answer old during new may steps.1)
changes_same (OnFiles call) answer old during new may same = (ap durable_files same.0, ap durable_files same.1)
changes_same (OnKeeper call) answer old during new may same = (ap durable_files same.0, ap durable_files same.1)
changes_same (Note fact) answer old during new may same = (ap durable_files same.0, ap durable_files same.1)

abbrev AllRead : List TraceEntry → Type 0
AllRead [] = Unit {0}
AllRead (e ∷ es) = IsReading e.call × AllRead es

ends_same : (es : List TraceEntry) (old last : CrashPoint) → AllRead es → Ends LeadsTo old es last → Ends LeadsTo (durable_point old) es (durable_point last)
ends_same [] old last all ends = ap durable_point ends
ends_same (e ∷ es) old last all ends =
    let step = ends.2 in (
      durable_point ends.0,
      durable_point ends.1,
      (changes_same e.call e.answer old.files (ends.0).files (ends.1).files all.0 step.0, step.1, step.2),
      ends_same es ends.1 last all.1 ends.3,
    )

-- ---- a run that loads asks only for this

abbrev OnlyReads : {R : Type 0} → Action R → Type 0
OnlyReads (Return x) = Unit {0}
OnlyReads (Ask call go) = IsReading call × ((answer : Answer call) → OnlyReads (go answer))

abbrev DiskReads : {R : Type 0} → DiskProgram R → Type 0
DiskReads (Return x) = Unit {0}
DiskReads (Ask call go) = IsReading (OnDisk call) × ((answer : DiskAnswer call) → DiskReads (go answer))

reads_then : {R S : Type 0} (p : DiskProgram (Option R)) (next : R → DiskProgram (Option S)) → DiskReads p → ((x : R) → DiskReads (next x)) → DiskReads (and_then p next)
reads_then (Return (Some x)) next first second = second x
reads_then (Return None) next first second = tt
reads_then (Ask call go) next first second = (first.0, λ answer. reads_then (go answer) next (first.1 answer) second)

folders_read : (root : List ℕ) (streams : List (List ℕ)) (files : List Listed) → DiskReads (list_folders_program root streams files)
folders_read root [] files = tt
folders_read root (stream ∷ streams) files =
    reads_then (lists (folder_of root stream)) (λ names. list_folders_program root streams (files ++ chunks_in stream names)) (tt, λ answer. tt)
    (λ names. folders_read root streams (files ++ chunks_in stream names))

files_read : (root : List ℕ) (files : List Listed) (so_far : List FileRead) → DiskReads (read_files_program root files so_far)
files_read root [] so_far = tt
files_read root (file ∷ files) so_far =
    reads_then (read_synced_program (path_of root file)) (λ bytes. read_files_program root files (so_far ++ file_read file bytes ∷ []))
    (reads_then (syncs (path_of root file)) (λ _. reads (path_of root file) 0 enough_bytes) (tt, λ answer. tt) (λ done. (tt, λ answer. tt)))
    (λ bytes. files_read root files (so_far ++ file_read file bytes ∷ []))

load_reads : (root : List ℕ) → DiskReads (load_program root)
load_reads root =
    reads_then (list_files_program root) (λ files. read_files_program root (in_order files) [])
    (reads_then (lists root) (λ streams. list_folders_program root streams []) (tt, λ answer. tt) (λ streams. folders_read root streams []))
    (λ files. files_read root (in_order files) [])

on_disk_reads : {R : Type 0} (p : DiskProgram R) → DiskReads p → OnlyReads (on_disk p)
on_disk_reads (Return x) all = tt
on_disk_reads (Ask call go) all = (all.0, λ answer. on_disk_reads (go answer) (all.1 answer))

bind_reads : {R S : Type 0} (p : Action R) (next : R → Action S) → OnlyReads p → ((x : R) → OnlyReads (next x)) → OnlyReads (bind p next)
bind_reads (Return x) next first second = second x
bind_reads (Ask call go) next first second = (first.0, λ answer. bind_reads (go answer) next (first.1 answer) second)

notes_read : (number : ℕ) (files : List FileRead) (h : History) → OnlyReads (notes_files number files h)
notes_read number [] h = tt
notes_read number (read ∷ more) h =
    (tt, λ answer. notes_read (number + 1) more (Found number read.file.stream read.file.name read.bytes ∷ h))

loaded_reads : (found : Option (List FileRead)) → OnlyReads (loaded found)
loaded_reads None = tt
loaded_reads (Some files) = notes_read 1 files []

from_reads : (root : Option (List ℕ)) → OnlyReads (loads_from root)
from_reads None = tt
from_reads (Some root) = bind_reads (on_disk (load_program root)) loaded (on_disk_reads (load_program root) (load_reads root)) loaded_reads

recovers_reads : (s : AllSettings) → OnlyReads (recovers s)
unfolding recovers
recovers_reads s = from_reads s.service.path

all_read : {R : Type 0} (p q : Action R) (es : List TraceEntry) → OnlyReads p → Execution p es q → AllRead es
all_read p q [] all way = tt
all_read (Return x) q (e ∷ es) all way = absurd way
all_read (Ask call go) q (e ∷ es) all way =
    (subst (λ (x : TraceEntry). IsReading x.call) (sym way.1) all.0, all_read (go way.0) q es (all.1 way.0) way.2)

-- a run that loads from these files loads the same from durable ones
pub loads_same : (s : AllSettings) (files : Files) (es : List TraceEntry) (found : Option History) (last : CrashPoint) → Execution (recovers s) es (Return found)
    → Ends LeadsTo (crash_point [] files) es last → Ends LeadsTo (crash_point [] (durable_files files)) es (durable_point last)
loads_same s files es found last way ends =
    ends_same es (crash_point [] files) last (all_read (recovers s) (Return found) es (recovers_reads s) way) ends

-- ---- the invariant of files at each point

change_sound : (call : Call) (answer : Answer call) (old during new : Files) → Changes call answer old during new → AllInvariant old → AllInvariant during × AllInvariant new
change_sound (OnLoop call) answer old during new same sound = (subst AllInvariant (sym same.0) sound, subst AllInvariant (sym same.1) sound)
change_sound (OnDisk call) answer old during new steps sound = invariant_step call answer old during new steps.1 sound
change_sound (OnFiles call) answer old during new same sound = (subst AllInvariant (sym same.0) sound, subst AllInvariant (sym same.1) sound)
change_sound (OnKeeper call) answer old during new same sound = (subst AllInvariant (sym same.0) sound, subst AllInvariant (sym same.1) sound)
change_sound (Note fact) answer old during new same sound = (subst AllInvariant (sym same.0) sound, subst AllInvariant (sym same.1) sound)

-- with another property of each point
pub with_invariant : (P : CrashPoint → Type 0) (es : List TraceEntry) (m : CrashPoint) → AllInvariant m.files → AtCrashPoints LeadsTo P m es
    → AtCrashPoints LeadsTo (λ at. P at × AllInvariant at.files) m es
with_invariant P [] m sound all = (all, sound)
with_invariant P (e ∷ es) m sound all = (
  (all.0, sound),
  λ during after leads.
      let kept = change_sound e.call e.answer m.files during.files after.files leads.0 sound in
      let step = all.1 during after leads in
      ((step.0, kept.0), with_invariant P es after kept.1 step.1),
)

-- after calls
pub ends_sound : (es : List TraceEntry) (m last : CrashPoint) → AllInvariant m.files → Ends LeadsTo m es last → AllInvariant last.files
ends_sound [] m last sound ends = subst (λ (at : CrashPoint). AllInvariant at.files) (sym ends) sound
ends_sound (e ∷ es) m last sound ends =
    let kept = change_sound e.call e.answer m.files ends.0.files ends.1.files (ends.2).0 sound in ends_sound es ends.1 last kept.1 ends.3
