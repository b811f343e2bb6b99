-- What a disk answers, one without unsynced state may answer too: what reads return doesn't depend on it.
use Rattle.std.proofs.Common.{◌≡◌, ◌≢◌, ◌⊎◌, inl, inr, ℕ, ◌≤◌, Bool, true, false, IsTrue, if◌then◌else◌, List, [], ◌∷◌, length, take, drop, All, Option, Some, None, refl, sym, ◌∙◌, ap, subst}
use Rattle.std.specs.Str.{bytes_eq}
use Rattle.std.proofs.lemmas.Slice.Eq.{bytes_eq-Decides}
use Rattle.fwd_outside.specs.AtCrashPoints.{Ends}
use Rattle.fwd_outside.specs.Disk.{DiskCall, DiskAnswer, Place, WriteAt, Sync, Remove, Read, ListNames, Preset, FailAt}
use Rattle.fwd_outside.specs.File.{FileState, FileInvariant, whole, absent, or_absent, overwritten, after_write}
use Rattle.fwd_outside.specs.DiskStates.{Files, CanWrite, PlaceTransition, WriteTransition, SyncTransition, RemoveTransition, ReadAnswer, ListAnswer, IsUnder, OnFile, DiskTransition}
use Rattle.fwd_backlog.specs.Recovered.{AreDurable}
use Rattle.fwd_backlog.proofs.LoadInvariant.{one_or_other}
use Rattle.fwd_model.specs.Trace.{Call, Answer, TraceEntry, OnLoop, OnDisk, OnFiles, OnKeeper, Note}
use Rattle.fwd_theorem_crash.specs.CrashPoint.{CrashPoint, crash_point, Changes, LeadsTo}
use Rattle.fwd_theorem_content.specs.KnownNames.{NamesAreKnown}

-- two states of a file that reads don't tell apart; the second has no file for certain only if the first has
pub record ReadsAlike (real synced : FileState) : Type 0 where
  pub bytes : synced.bytes ≡ real.bytes
  pub there : synced.there ≡ real.there
  pub stays : IsTrue synced.there → IsTrue synced.may_stay
  pub none : synced ≡ absent → real ≡ absent

abbrev pub AllReadAlike : Files → Files → Type 0
AllReadAlike real synced = (name : List ℕ) → ReadsAlike (real name) (synced name)

not_absent : (file : FileState) → IsTrue file.there → file ≡ absent → ⊥
not_absent file there is = let no : true ≡ false = sym there ∙ ap (λ (f : FileState). f.there) is in absurd (cc no)

-- ---- one file

alike_itself : (file : FileState) → FileInvariant file → ReadsAlike file file
alike_itself file sound = record { bytes = refl; there = refl; stays = sound.stays; none = λ is. is }

alike_whole : (one other : List ℕ) → other ≡ one → ReadsAlike (whole one) (whole other)
alike_whole one other same = record { bytes = same; there = refl; stays = λ there. refl; none = λ is. absurd (not_absent (whole other) refl is) }

alike_absent : ReadsAlike absent absent
alike_absent = record { bytes = refl; there = refl; stays = λ there. let no : false ≡ true = there in absurd (cc no); none = λ is. is }

alike_written : (real synced : FileState) (at count : ℕ) (left : List ℕ) → ReadsAlike real synced → IsTrue synced.there → ReadsAlike (after_write real at count left) (after_write synced at count left)
alike_written real synced at count left same there = record {
  bytes = ap (λ (l : List ℕ). overwritten l at left) same.bytes;
  there = same.there;
  stays = same.stays;
  none = λ is. absurd (not_absent (after_write synced at count left) there is);
}

alike_removed : (real synced : FileState) (there : Bool) → ReadsAlike real synced → IsTrue synced.there → ReadsAlike (or_absent real there) (or_absent synced there)
alike_removed real synced there same was = record {
  bytes = same.bytes;
  there = refl;
  stays = λ _. same.stays was;
  none = λ is. let no : true ≡ false = sym (same.stays was) ∙ ap (λ (f : FileState). f.may_stay) is in absurd (cc no);
}

there_too : (real synced : FileState) → ReadsAlike real synced → IsTrue real.there → IsTrue synced.there
there_too real synced same there = same.there ∙ there

can_write : (real synced : FileState) (at : ℕ) → ReadsAlike real synced → CanWrite real at → CanWrite synced at
can_write real synced at same can = record { there = there_too real synced same can.there; within = subst (λ (l : List ℕ). at ≤ length l) (sym same.bytes) can.within }

-- ---- one call

-- the synced state of the file during and after a call, and it is alike
pub record Goes (Act : FileState → FileState → FileState → Type 0) (synced new : FileState) : Type 0 where
  pub inside : FileState
  pub after : FileState
  pub acts : Act synced inside after
  pub alike : ReadsAlike new after

pub goes_places : (bytes : List ℕ) (answer : Option (Unit {0})) (real during new synced : FileState) → ReadsAlike real synced → PlaceTransition bytes answer real during new → Goes (PlaceTransition bytes answer) synced new
goes_places bytes (Some done) real during new synced same steps = record { inside = during; after = new; acts = (steps.0, steps.1, λ is. steps.2 (same.none is)); alike = alike_itself new steps.1 }
goes_places bytes None real during new synced same steps = record { inside = during; after = new; acts = (steps.0, steps.1, λ is. steps.2 (same.none is)); alike = alike_itself new steps.1 }

pub goes_writes : (at : ℕ) (bytes : List ℕ) (answer : Option (Unit {0})) (real during new synced : FileState) → ReadsAlike real synced → WriteTransition at bytes answer real during new → Goes (WriteTransition at bytes answer) synced new
goes_writes at bytes (Some done) real during new synced same steps = record {
  inside = after_write synced at (length bytes) bytes;
  after = after_write synced at (length bytes) bytes;
  acts = (can_write real synced at same steps.0, refl, refl);
  alike = subst (λ (f : FileState). ReadsAlike f (after_write synced at (length bytes) bytes)) (sym steps.2) (alike_written real synced at (length bytes) bytes same (there_too real synced same steps.0.there));
}
goes_writes at bytes None real during new synced same (inl steps) = record {
  inside = after_write synced at (length bytes) steps.1;
  after = after_write synced at (length bytes) steps.1;
  acts = inl (can_write real synced at same steps.0, steps.1, steps.2, refl, refl);
  alike = subst (λ (f : FileState). ReadsAlike f (after_write synced at (length bytes) steps.1)) (sym steps.4) (alike_written real synced at (length bytes) steps.1 same (there_too real synced same steps.0.there));
}
goes_writes at bytes None real during new synced same (inr unchanged) =
    record { inside = synced; after = synced; acts = inr (refl, refl); alike = subst (λ (f : FileState). ReadsAlike f synced) (sym unchanged.1) same }

pub goes_syncs : (answer : Option (Unit {0})) (real during new synced : FileState) → ReadsAlike real synced → SyncTransition answer real during new → Goes (SyncTransition answer) synced new
goes_syncs (Some done) real during new synced same steps = record {
  inside = synced;
  after = whole synced.bytes;
  acts = (there_too real synced same steps.0, refl, refl);
  alike = subst (λ (f : FileState). ReadsAlike f (whole synced.bytes)) (sym steps.2) (alike_whole real.bytes synced.bytes same.bytes);
}
goes_syncs None real during new synced same unchanged = record { inside = synced; after = synced; acts = (refl, refl); alike = subst (λ (f : FileState). ReadsAlike f synced) (sym unchanged.1) same }

pub goes_removes : (answer : Option (Unit {0})) (real during new synced : FileState) → ReadsAlike real synced → RemoveTransition answer real during new → Goes (RemoveTransition answer) synced new
goes_removes (Some done) real during new synced same steps = record {
  inside = or_absent synced true;
  after = absent;
  acts = (there_too real synced same steps.0, refl, refl);
  alike = subst (λ (f : FileState). ReadsAlike f absent) (sym steps.2) alike_absent;
}
goes_removes None real during new synced same (inl steps) = record {
  inside = or_absent synced true;
  after = or_absent synced steps.1;
  acts = inl (there_too real synced same steps.0, steps.1, refl, refl);
  alike = subst (λ (f : FileState). ReadsAlike f (or_absent synced steps.1)) (sym steps.3) (alike_removed real synced steps.1 same (there_too real synced same steps.0));
}
goes_removes None real during new synced same (inr unchanged) =
    record { inside = synced; after = synced; acts = inr (refl, refl); alike = subst (λ (f : FileState). ReadsAlike f synced) (sym unchanged.1) same }

pub goes_reads : (at len : ℕ) (answer : Option (List ℕ)) (real synced : FileState) → ReadsAlike real synced → ReadAnswer at len answer real → ReadAnswer at len answer synced
goes_reads at len (Some bytes) real synced same read = (there_too real synced same read.0, read.1 ∙ ap (λ (l : List ℕ). take len (drop at l)) (sym same.bytes))
goes_reads at len None real synced same read = tt

-- a listing tells which files are there
goes_lists : (folder : List ℕ) (answer : Option (List (List ℕ))) (real synced : Files) → AllReadAlike real synced → ListAnswer folder answer real → ListAnswer folder answer synced
goes_lists folder None real synced same lists = tt
goes_lists folder (Some names) real synced same lists = record {
  each = subst (λ (there : List ℕ → Bool). All (λ (name : List ℕ). (file : List ℕ) × IsTrue (there file) × IsUnder folder name file) names) (λ i file. sym (same file).there i) lists.each;
  all = λ name file is there under. lists.all name file is (sym (same file).there ∙ there) under;
}

-- ---- all files

pub put : List ℕ → FileState → Files → Files
put name file files n = if bytes_eq n name then file else files n

pub put_here : (name : List ℕ) (file : FileState) (files : Files) → put name file files name ≡ file
unfolding put
put_here name file files = ap (λ (b : Bool). if b then file else files name) ((bytes_eq-Decides name name).1 refl)

pub put_beside : (name : List ℕ) (file : FileState) (files : Files) (n : List ℕ) → n ≢ name → put name file files n ≡ files n
unfolding put
put_beside name file files n ne = by (bytes_eq n name) refl
  where
    by : (b : Bool) → bytes_eq n name ≡ b → (if b then file else files n) ≡ files n
    by true is = absurd (ne ((bytes_eq-Decides n name).0 is))
    by false is = refl

-- the synced files during and after a call, and they are alike
record Step (call : DiskCall) (answer : DiskAnswer call) (synced new : Files) : Type 0 where
  inside : Files
  after : Files
  acts : DiskTransition call answer synced inside after
  alike : AllReadAlike new after

module _ (name : List ℕ) (Act : FileState → FileState → FileState → Type 0) (real during new synced : Files) (same : AllReadAlike real synced) (steps : OnFile name Act real during new) (goes : Goes Act (synced name) (new name)) where
  abbrev inside_now : Files
  inside_now = put name goes.inside synced

  abbrev after_now : Files
  after_now = put name goes.after synced

  on_file : OnFile name Act synced inside_now after_now
  on_file = record {
    file = subst (λ (x : FileState). Act (synced name) x (after_now name)) (sym (put_here name goes.inside synced)) (subst (λ (y : FileState). Act (synced name) goes.inside y) (sym (put_here name goes.after synced)) goes.acts);
    others_during = put_beside name goes.inside synced;
    others = put_beside name goes.after synced;
  }

  alike_now : AllReadAlike new after_now
  alike_now n = by (one_or_other name n)
    where
      by : (n ≡ name) ⊎ (n ≢ name) → ReadsAlike (new n) (after_now n)
      by (inl is) = subst (λ (m : List ℕ). ReadsAlike (new m) (after_now m)) (sym is) (subst (λ (y : FileState). ReadsAlike (new name) y) (sym (put_here name goes.after synced)) goes.alike)
      by (inr ne) =
          subst (λ (x : FileState). ReadsAlike x (after_now n)) (sym (steps.others n ne)) (subst (λ (y : FileState). ReadsAlike (real n) y) (sym (put_beside name goes.after synced n ne)) (same n))

still_alike : (real new synced : Files) → new ≡ real → AllReadAlike real synced → AllReadAlike new synced
still_alike real new synced is same = subst (λ (files : Files). AllReadAlike files synced) (sym is) same

disk_step : (call : DiskCall) (answer : DiskAnswer call) (real during new synced : Files) → AllReadAlike real synced → DiskTransition call answer real during new → Step call answer synced new
disk_step (Place name bytes) answer real during new synced same steps =
    let goes = goes_places bytes answer (real name) (during name) (new name) (synced name) (same name) steps.file in
    record { inside = inside_now name (PlaceTransition bytes answer) real during new synced same steps goes; after = after_now name (PlaceTransition bytes answer) real during new synced same steps goes; acts = on_file name (PlaceTransition bytes answer) real during new synced same steps goes; alike = alike_now name (PlaceTransition bytes answer) real during new synced same steps goes }
disk_step (WriteAt name at bytes) answer real during new synced same steps =
    let goes = goes_writes at bytes answer (real name) (during name) (new name) (synced name) (same name) steps.file in
    record { inside = inside_now name (WriteTransition at bytes answer) real during new synced same steps goes; after = after_now name (WriteTransition at bytes answer) real during new synced same steps goes; acts = on_file name (WriteTransition at bytes answer) real during new synced same steps goes; alike = alike_now name (WriteTransition at bytes answer) real during new synced same steps goes }
disk_step (Sync name) answer real during new synced same steps =
    let goes = goes_syncs answer (real name) (during name) (new name) (synced name) (same name) steps.file in
    record { inside = inside_now name (SyncTransition answer) real during new synced same steps goes; after = after_now name (SyncTransition answer) real during new synced same steps goes; acts = on_file name (SyncTransition answer) real during new synced same steps goes; alike = alike_now name (SyncTransition answer) real during new synced same steps goes }
disk_step (Remove name) answer real during new synced same steps =
    let goes = goes_removes answer (real name) (during name) (new name) (synced name) (same name) steps.file in
    record { inside = inside_now name (RemoveTransition answer) real during new synced same steps goes; after = after_now name (RemoveTransition answer) real during new synced same steps goes; acts = on_file name (RemoveTransition answer) real during new synced same steps goes; alike = alike_now name (RemoveTransition answer) real during new synced same steps goes }
disk_step (Read name at len) answer real during new synced same steps =
    record { inside = synced; after = synced; acts = (goes_reads at len answer (real name) (synced name) (same name) steps.0, (refl, refl)); alike = still_alike real new synced steps.1.1 same }
disk_step (ListNames folder) answer real during new synced same steps =
    record { inside = synced; after = synced; acts = (goes_lists folder answer real synced same steps.0, (refl, refl)); alike = still_alike real new synced steps.1.1 same }
disk_step (Preset name bytes) answer real during new synced same steps =
    let Acts : FileState → FileState → FileState → Type 0 = λ _ x y. (x ≡ whole bytes) × (y ≡ whole bytes) in
    let goes : Goes Acts (synced name) (new name) = record { inside = whole bytes; after = whole bytes; acts = (refl, refl); alike = subst (λ (f : FileState). ReadsAlike f (whole bytes)) (sym steps.file.1) (alike_whole bytes bytes refl) } in
    record { inside = inside_now name Acts real during new synced same steps goes; after = after_now name Acts real during new synced same steps goes; acts = on_file name Acts real during new synced same steps goes; alike = alike_now name Acts real during new synced same steps goes }
disk_step (FailAt number) answer real during new synced same steps = record { inside = synced; after = synced; acts = (refl, refl); alike = still_alike real new synced steps.1 same }

-- ---- the calls of a run

record Changed (call : Call) (answer : Answer call) (synced new : Files) : Type 0 where
  inside : Files
  after : Files
  changes : Changes call answer synced inside after
  alike : AllReadAlike new after

changed_by : (call : Call) (answer : Answer call) (real during new synced : Files) → AllReadAlike real synced → Changes call answer real during new → Changed call answer synced new
changed_by (OnDisk call) answer real during new synced same changes =
    let step = disk_step call answer real during new synced same changes.1 in
    record { inside = step.inside; after = step.after; changes = (changes.0, step.acts); alike = step.alike }
changed_by (OnLoop call) answer real during new synced same changes = record { inside = synced; after = synced; changes = (refl, refl); alike = still_alike real new synced changes.1 same }
changed_by (OnFiles call) answer real during new synced same changes = record { inside = synced; after = synced; changes = (refl, refl); alike = still_alike real new synced changes.1 same }
changed_by (OnKeeper call) answer real during new synced same changes = record { inside = synced; after = synced; changes = (refl, refl); alike = still_alike real new synced changes.1 same }
changed_by (Note fact) answer real during new synced same changes = record { inside = synced; after = synced; changes = (refl, refl); alike = still_alike real new synced changes.1 same }

follows : (es : List TraceEntry) (m last : CrashPoint) (synced : Files) → AllReadAlike m.files synced → Ends LeadsTo m es last → (end : CrashPoint) × Ends LeadsTo (crash_point m.past synced) es end
follows [] m last synced same along = (crash_point m.past synced, refl)
follows (e ∷ es) m last synced same along =
    let passes = along.2 in
    let changed = changed_by e.call e.answer m.files along.0.files along.1.files synced same passes.0 in
    let rest = follows es along.1 last changed.after changed.alike along.3 in
    (rest.0, (crash_point m.past changed.inside, crash_point along.1.past changed.after, (changed.changes, refl, passes.2), rest.1))

-- ---- the files as reads return them, without unsynced state

unfoldable pub synced_state : FileState → FileState
synced_state file = if file.there then whole file.bytes else absent

unfoldable pub synced_files : Files → Files
synced_files files name = synced_state (files name)

pub state_alike : (file : FileState) → (file ≡ absent) ⊎ IsTrue file.there → ReadsAlike file (synced_state file)
unfolding synced_state
state_alike file (inl is) = subst (λ (f : FileState). ReadsAlike f (if f.there then whole f.bytes else absent)) (sym is) alike_absent
state_alike file (inr there) =
    subst (λ (f : FileState). ReadsAlike file f) (sym (ap (λ (b : Bool). if b then whole file.bytes else absent) there))
    (record { bytes = refl; there = sym there; stays = λ _. refl; none = λ is. absurd (not_absent (whole file.bytes) refl is) })

state_durable : (file : FileState) → (synced_state file ≡ absent) ⊎ ((bytes : List ℕ) × (synced_state file ≡ whole bytes))
unfolding synced_state
state_durable file = by file.there
  where
    by : (b : Bool) → ((if b then whole file.bytes else absent) ≡ absent) ⊎ ((bytes : List ℕ) × ((if b then whole file.bytes else absent) ≡ whole bytes))
    by true = inr (file.bytes, refl)
    by false = inl refl

pub are_durable : (files : Files) → AreDurable (synced_files files)
unfolding synced_files
are_durable files name = state_durable (files name)

pub leads_synced : (es : List TraceEntry) (first : Files) (last : CrashPoint) → NamesAreKnown first → Ends LeadsTo (crash_point [] first) es last → (end : CrashPoint) × Ends LeadsTo (crash_point [] (synced_files first)) es end
unfolding synced_files
leads_synced es first last known along = follows es (crash_point [] first) last (λ name. synced_state (first name)) (λ name. state_alike (first name) (known name)) along

pub durable_known : (files : Files) → AreDurable files → NamesAreKnown files
durable_known files durable name = by (durable name)
  where
    by : (files name ≡ absent) ⊎ ((bytes : List ℕ) × (files name ≡ whole bytes)) → (files name ≡ absent) ⊎ IsTrue (files name).there
    by (inl is) = inl is
    by (inr stands) = inr (ap (λ (f : FileState). f.there) stands.1)
