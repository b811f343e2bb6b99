-- The files of the disk in memory after calls with these answers, and the calls that it may answer so.
use Rattle.std.proofs.Common.{◌≡◌, ◌≢◌, inl, ℕ, leb, Bool, true, false, IsTrue, ◌&&◌, if◌then◌else◌, Option, Some, None, is_some, List, [], ◌∷◌, length, refl, sym, ◌∙◌, ap, subst, arith}
use Rattle.std.specs.Str.{bytes_eq}
use Rattle.std.proofs.lemmas.Bool.{le-leb}
use Rattle.fwd_outside.specs.Disk.{DiskCall, DiskAnswer, Place, WriteAt, Sync, Remove, Read, ListNames, Preset, FailAt}
use Rattle.fwd_outside.specs.File.{FileState, FileInvariant, whole, absent, whole_or_absent, or_absent, after_write}
use Rattle.fwd_outside.specs.DiskStates.{Files, CanWrite, PlaceTransition, WriteTransition, SyncTransition, RemoveTransition, ReadAnswer, OnFile, DiskTransition}
use Rattle.fwd_outside.proofs.Invariant.{sound_whole, sound_maybe}
use Rattle.fwd_disk_mem.specs.declared.entry.MemEntry.{MemEntry}
use Rattle.fwd_disk_mem.specs.declared.entry.MemEntry.TheVariants as kept
use Rattle.fwd_disk_mem.specs.Entry.{can_write, file_after}
use Rattle.fwd_disk_mem.proofs.Lookup.{on_name, off_name}
use Rattle.fwd_model.specs.Trace.{Call, Answer, TraceEntry, OnLoop, OnDisk, OnFiles, OnKeeper, Note}

-- ---- the file of one name changes

abbrev pub changed : List ℕ → (FileState → FileState) → Files → Files
changed name act files n = if bytes_eq name n then act (files n) else files n

pub changed_here : (name : List ℕ) (act : FileState → FileState) (files : Files) → changed name act files name ≡ act (files name)
changed_here name act files = on_name name name (act (files name)) (files name) refl

pub changed_beside : (name : List ℕ) (act : FileState → FileState) (files : Files) (n : List ℕ) → n ≢ name → changed name act files n ≡ files n
changed_beside name act files n ne = off_name name n (act (files n)) (files n) (λ e. ne (sym e))

on_file : (name : List ℕ) (inside act : FileState → FileState) (Act : FileState → FileState → FileState → Type 0) (files : Files) → Act (files name) (inside (files name)) (act (files name)) → OnFile name Act files (changed name inside files) (changed name act files)
on_file name inside act Act files acts = record {
  file = subst (λ (x : FileState). Act (files name) x (changed name act files name)) (sym (changed_here name inside files)) (subst (λ (y : FileState). Act (files name) (inside (files name)) y) (sym (changed_here name act files)) acts);
  others_during = λ n ne. changed_beside name inside files n ne;
  others = λ n ne. changed_beside name act files n ne;
}

-- ---- a call

-- the call, as the disk in memory records it
abbrev pub recorded_as : (call : DiskCall) → DiskAnswer call → MemEntry
recorded_as (Place name bytes) answer = kept.Place name bytes (is_some answer)
recorded_as (WriteAt name at bytes) answer = kept.WriteAt name at bytes (is_some answer)
recorded_as (Sync name) answer = kept.Sync name (is_some answer)
recorded_as (Remove name) answer = kept.Remove name (is_some answer)
recorded_as (Read name at len) answer = kept.Read name at len answer
recorded_as (ListNames folder) answer = kept.List folder answer
recorded_as (Preset name bytes) answer = kept.Preset name bytes
recorded_as (FailAt number) answer = kept.FailAt number

-- the file of its name after the call
abbrev pub acted : (call : DiskCall) → DiskAnswer call → FileState → FileState
acted call answer state = file_after state (recorded_as call answer)

abbrev pub mem_after : (call : DiskCall) → DiskAnswer call → Files → Files
mem_after (Place name bytes) answer files = changed name (acted (Place name bytes) answer) files
mem_after (WriteAt name at bytes) answer files = changed name (acted (WriteAt name at bytes) answer) files
mem_after (Sync name) answer files = changed name (acted (Sync name) answer) files
mem_after (Remove name) answer files = changed name (acted (Remove name) answer) files
mem_after (Read name at len) answer files = files
mem_after (ListNames folder) answer files = files
mem_after (Preset name bytes) answer files = files
mem_after (FailAt number) answer files = files

-- the disk in memory gives this answer, if the call isn't to fail
abbrev pub Right : (call : DiskCall) → DiskAnswer call → Files → Type 0
Right (Place name bytes) answer files = files name ≡ absent
Right (WriteAt name at bytes) answer files = CanWrite (files name) at
Right (Sync name) answer files = IsTrue (files name).there
Right (Remove name) answer files = IsTrue (files name).there
Right (Read name at len) answer files = IsTrue (files name).there × ReadAnswer at len answer (files name)
Right (ListNames folder) answer files = ⊥
Right (Preset name bytes) answer files = ⊥
Right (FailAt number) answer files = ⊥

-- during the call
abbrev pub mem_inside : (call : DiskCall) → DiskAnswer call → Files → Files
mem_inside (Place name bytes) answer files = changed name (λ _. whole_or_absent bytes false) files
mem_inside (WriteAt name at bytes) answer files = changed name (acted (WriteAt name at bytes) answer) files
mem_inside (Sync name) answer files = changed name (λ state. state) files
mem_inside (Remove name) answer files = changed name (λ state. or_absent state true) files
mem_inside (Read name at len) answer files = files
mem_inside (ListNames folder) answer files = files
mem_inside (Preset name bytes) answer files = files
mem_inside (FailAt number) answer files = files

pub can_true : (state : FileState) (at : ℕ) → CanWrite state at → can_write state at ≡ true
can_true state at can = ap (λ (b : Bool). b && leb at (length state.bytes)) can.there ∙ le-leb at (length state.bytes) can.within

-- the file after a write
pub written : (name : List ℕ) (at : ℕ) (bytes : List ℕ) (answer : Option (Unit {0})) (state : FileState) → CanWrite state at
    → acted (WriteAt name at bytes) answer state ≡ after_write state at (length bytes) (if is_some answer then bytes else [])
written name at bytes answer state can = ap (λ (b : Bool). if b then after_write state at (length bytes) (if is_some answer then bytes else []) else state) (can_true state at can)

placed : (name bytes : List ℕ) (answer : Option (Unit {0})) (state : FileState) → state ≡ absent → PlaceTransition bytes answer state (whole_or_absent bytes false) (acted (Place name bytes) answer state)
placed name bytes (Some done) state new = (sound_maybe bytes false, sound_whole bytes, λ _. (refl, refl))
placed name bytes None state new =
    let is : acted (Place name bytes) None state ≡ whole_or_absent bytes false = ap (λ (t : FileState). if t.there then t else whole_or_absent bytes false) new in
    (sound_maybe bytes false, subst FileInvariant (sym is) (sound_maybe bytes false), λ _. (refl, false, is))

wrote : (name : List ℕ) (at : ℕ) (bytes : List ℕ) (answer : Option (Unit {0})) (state : FileState) → CanWrite state at
    → WriteTransition at bytes answer state (acted (WriteAt name at bytes) answer state) (acted (WriteAt name at bytes) answer state)
wrote name at bytes (Some done) state can = let is = written name at bytes (Some done) state can in (can, is, is)
wrote name at bytes None state can = let is = written name at bytes None state can in inl (can, [], omega arith, is, is)

synced : (name : List ℕ) (answer : Option (Unit {0})) (state : FileState) → IsTrue state.there → SyncTransition answer state state (acted (Sync name) answer state)
synced name (Some done) state there = (there, refl, ap (λ (b : Bool). if b then whole state.bytes else state) there)
synced name None state there = (refl, refl)

removed : (name : List ℕ) (answer : Option (Unit {0})) (state : FileState) → IsTrue state.there → RemoveTransition answer state (or_absent state true) (acted (Remove name) answer state)
removed name (Some done) state there = (there, refl, ap (λ (b : Bool). if b then absent else state) there)
removed name None state there = inl (there, true, refl, ap (λ (b : Bool). if b then or_absent state true else state) there)

-- it keeps its model
pub mem_transits : (call : DiskCall) (answer : DiskAnswer call) (files : Files) → Right call answer files → DiskTransition call answer files (mem_inside call answer files) (mem_after call answer files)
mem_transits (Place name bytes) answer files right = on_file name (λ _. whole_or_absent bytes false) (acted (Place name bytes) answer) (PlaceTransition bytes answer) files (placed name bytes answer (files name) right)
mem_transits (WriteAt name at bytes) answer files right =
    on_file name (acted (WriteAt name at bytes) answer) (acted (WriteAt name at bytes) answer) (WriteTransition at bytes answer) files (wrote name at bytes answer (files name) right)
mem_transits (Sync name) answer files right = on_file name (λ state. state) (acted (Sync name) answer) (SyncTransition answer) files (synced name answer (files name) right)
mem_transits (Remove name) answer files right = on_file name (λ state. or_absent state true) (acted (Remove name) answer) (RemoveTransition answer) files (removed name answer (files name) right)
mem_transits (Read name at len) answer files right = (right.1, (refl, refl))
mem_transits (ListNames folder) answer files right = absurd right
mem_transits (Preset name bytes) answer files right = absurd right
mem_transits (FailAt number) answer files right = absurd right

-- ---- the calls since recovery, the newest first

abbrev pub call_after : (call : Call) → Answer call → Files → Files
call_after (OnLoop call) answer files = files
call_after (OnDisk call) answer files = mem_after call answer files
call_after (OnFiles call) answer files = files
call_after (OnKeeper call) answer files = files
call_after (Note fact) answer files = files

abbrev pub no_files : Files
no_files name = absent

abbrev pub mem : List TraceEntry → Files
mem [] = no_files
mem (e ∷ since) = call_after e.call e.answer (mem since)

abbrev pub RightCall : (call : Call) → Answer call → Files → Type 0
RightCall (OnLoop call) answer files = Unit {0}
RightCall (OnDisk call) answer files = Right call answer files
RightCall (OnFiles call) answer files = Unit {0}
RightCall (OnKeeper call) answer files = Unit {0}
RightCall (Note fact) answer files = Unit {0}

abbrev pub AllRight : List TraceEntry → Type 0
AllRight [] = Unit {0}
AllRight (e ∷ since) = RightCall e.call e.answer (mem since) × AllRight since
