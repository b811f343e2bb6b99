-- A disk with unsynced state and one without any: a file is the same on both once it was fsynced.
use Rattle.std.proofs.Common.{◌≡◌, ◌≢◌, ◌⊎◌, inl, inr, ℕ, ◌||◌, Bool, true, false, IsTrue, if◌then◌else◌, List, [], ◌∷◌, ◌++◌, All, Option, Some, None, refl, sym, ◌∙◌, ap, subst, arith}
use Rattle.std.specs.Prelude.{Contains}
use Rattle.std.specs.Str.{bytes_eq}
use Rattle.std.proofs.lemmas.Slice.Eq.{bytes_eq-Decides}
use Rattle.fwd_outside.specs.Program.{entry}
use Rattle.fwd_outside.specs.AtCrashPoints.{Ends, AtCrashPoints}
use Rattle.fwd_outside.specs.Disk.{DiskCall, DiskAnswer, Place, WriteAt, Sync, Remove, Read, ListNames, Preset, FailAt}
use Rattle.fwd_outside.specs.File.{FileState, whole}
use Rattle.fwd_outside.specs.DiskStates.{Files, PlaceTransition, WriteTransition, SyncTransition, RemoveTransition, ReadAnswer, ListAnswer, IsUnder, OnFile, NoFileChanges, DiskTransition}
use Rattle.fwd_backlog.proofs.LoadInvariant.{one_or_other}
use Rattle.fwd_model.specs.Trace.{Call, Answer, TraceEntry, OnLoop, OnDisk, OnFiles, OnKeeper, Note}
use Rattle.fwd_theorem_trace.proofs.Members.{either}
use Rattle.fwd_theorem_crash.specs.CrashPoint.{CrashPoint, crash_point, Changes, LeadsTo}
use Rattle.fwd_theorem_content.proofs.SyncedDisk.{ReadsAlike, Goes, goes_places, goes_writes, goes_syncs, goes_removes, goes_reads, put, put_here, put_beside}

-- the file is the same on both disks, or reads don't tell its two states apart
abbrev pub NearBy : Bool → FileState → FileState → Type 0
NearBy true real synced = synced ≡ real
NearBy false real synced = ReadsAlike real synced

-- for the names that pass a test, the files are the same
abbrev pub AreNear : (List ℕ → Bool) → Files → Files → Type 0
AreNear equal real synced = (name : List ℕ) → NearBy (equal name) (real name) (synced name)

near_same : (b : Bool) (real synced : FileState) → NearBy b real synced → b ≡ true → synced ≡ real
near_same true real synced near is = near
near_same false real synced near is = absurd (cc is)

near_there : (b : Bool) (real synced : FileState) → NearBy b real synced → synced.there ≡ real.there
near_there true real synced near = ap (λ (f : FileState). f.there) near
near_there false real synced near = near.there

-- whether a call fsynced a name
abbrev pub is_synced_by : (call : Call) → Answer call → List ℕ → Bool
is_synced_by (OnDisk (Sync name)) (Some done) n = bytes_eq n name
is_synced_by call answer n = false

abbrev pub equal_after : (List ℕ → Bool) → (call : Call) → Answer call → List ℕ → Bool
equal_after equal call answer n = is_synced_by call answer n || equal n

abbrev pub equal_since : (List ℕ → Bool) → List TraceEntry → List ℕ → Bool
equal_since equal [] = equal
equal_since equal (e ∷ es) = equal_since (equal_after equal e.call e.answer) es

or_later : (a b : Bool) → b ≡ true → (a || b) ≡ true
or_later true b is = refl
or_later false b is = is

pub equal_stays : (es : List TraceEntry) (equal : List ℕ → Bool) (n : List ℕ) → equal n ≡ true → equal_since equal es n ≡ true
equal_stays [] equal n is = is
equal_stays (e ∷ es) equal n is = equal_stays es (equal_after equal e.call e.answer) n (or_later (is_synced_by e.call e.answer n) (equal n) is)

-- a name that was fsynced passes
pub synced_passes : (es : List TraceEntry) (equal : List ℕ → Bool) (n : List ℕ) → Contains es (entry (OnDisk (Sync n)) (Some tt)) → equal_since equal es n ≡ true
synced_passes [] equal n has = absurd (omega (arith, has.1))
synced_passes (e ∷ es) equal n has = by (synced_passes es (equal_after equal e.call e.answer) n) (either e es (entry (OnDisk (Sync n)) (Some tt)) has)
  where
    by : (Contains es (entry (OnDisk (Sync n)) (Some tt)) → equal_since (equal_after equal e.call e.answer) es n ≡ true)
        → (e ≡ entry (OnDisk (Sync n)) (Some tt)) ⊎ Contains es (entry (OnDisk (Sync n)) (Some tt)) → equal_since (equal_after equal e.call e.answer) es n ≡ true
    by more (inr later) = more later
    by more (inl same) =
        let now : (bytes_eq n n || equal n) ≡ true = ap (λ (b : Bool). b || equal n) ((bytes_eq-Decides n n).1 refl) in
        subst (λ (x : TraceEntry). equal_since (equal_after equal x.call x.answer) es n ≡ true) (sym same) (equal_stays es (equal_after equal (OnDisk (Sync n)) (Some tt)) n now)

-- ---- one file

-- the file during and after a call
record NearFile (b later : Bool) (Act : FileState → FileState → FileState → Type 0) (during new synced : FileState) : Type 0 where
  inside : FileState
  after : FileState
  acts : Act synced inside after
  near : NearBy later new after
  same : b ≡ true → inside ≡ during

near_file : (b : Bool) (Act : FileState → FileState → FileState → Type 0) (real during new synced : FileState) → (ReadsAlike real synced → Goes Act synced new) → Act real during new → NearBy b real synced → NearFile b b Act during new synced
near_file true Act real during new synced goes steps near =
    record { inside = during; after = new; acts = subst (λ (f : FileState). Act f during new) (sym near) steps; near = refl; same = λ _. refl }
near_file false Act real during new synced goes steps near =
    let gone = goes near in record { inside = gone.inside; after = gone.after; acts = gone.acts; near = gone.alike; same = λ no. absurd (cc no) }

-- after an fsync the file is the same
near_synced : (b : Bool) (real during new synced : FileState) → SyncTransition (Some tt) real during new → NearBy b real synced → NearFile b true (SyncTransition (Some tt)) during new synced
near_synced true real during new synced steps near =
    record { inside = during; after = new; acts = subst (λ (f : FileState). SyncTransition (Some tt) f during new) (sym near) steps; near = refl; same = λ _. refl }
near_synced false real during new synced steps near = record {
  inside = synced;
  after = whole synced.bytes;
  acts = (near.there ∙ steps.0, refl, refl);
  near = ap whole near.bytes ∙ sym steps.2;
  same = λ no. absurd (cc no);
}

-- ---- all files

record NearStep (call : DiskCall) (answer : DiskAnswer call) (equal later : List ℕ → Bool) (during new synced : Files) : Type 0 where
  inside : Files
  after : Files
  acts : DiskTransition call answer synced inside after
  near : AreNear later new after
  same : (n : List ℕ) → equal n ≡ true → inside n ≡ during n

module _ (name : List ℕ) (Act : FileState → FileState → FileState → Type 0) (real during new synced : Files) (equal later : List ℕ → Bool) (beside : (n : List ℕ) → n ≢ name → later n ≡ equal n) (near : AreNear equal real synced) (steps : OnFile name Act real during new)
    (file : NearFile (equal name) (later name) Act (during name) (new name) (synced name)) where
  abbrev inside_now : Files
  inside_now = put name file.inside synced

  abbrev after_now : Files
  after_now = put name file.after synced

  on_file : OnFile name Act synced inside_now after_now
  on_file = record {
    file = subst (λ (x : FileState). Act (synced name) x (after_now name)) (sym (put_here name file.inside synced)) (subst (λ (y : FileState). Act (synced name) file.inside y) (sym (put_here name file.after synced)) file.acts);
    others_during = put_beside name file.inside synced;
    others = put_beside name file.after synced;
  }

  near_now : AreNear later new after_now
  near_now n = by (one_or_other name n)
    where
      by : (n ≡ name) ⊎ (n ≢ name) → NearBy (later n) (new n) (after_now n)
      by (inl is) =
          subst (λ (m : List ℕ). NearBy (later m) (new m) (after_now m)) (sym is) (subst (λ (y : FileState). NearBy (later name) (new name) y) (sym (put_here name file.after synced)) file.near)
      by (inr ne) =
          subst (λ (b : Bool). NearBy b (new n) (after_now n)) (sym (beside n ne))
          (subst (λ (x : FileState). NearBy (equal n) x (after_now n)) (sym (steps.others n ne)) (subst (λ (y : FileState). NearBy (equal n) (real n) y) (sym (put_beside name file.after synced n ne)) (near n)))

  same_now : (n : List ℕ) → equal n ≡ true → inside_now n ≡ during n
  same_now n on = by (one_or_other name n)
    where
      by : (n ≡ name) ⊎ (n ≢ name) → inside_now n ≡ during n
      by (inl is) =
          let mine = subst (λ (m : List ℕ). equal m ≡ true) is on in
          subst (λ (m : List ℕ). inside_now m ≡ during m) (sym is) (put_here name file.inside synced ∙ file.same mine)
      by (inr ne) = put_beside name file.inside synced n ne ∙ (near_same (equal n) (real n) (synced n) (near n) on ∙ sym (steps.others_during n ne))

-- a call on one file that isn't an fsync
one_file : (name : List ℕ) (Act : FileState → FileState → FileState → Type 0) (real during new synced : Files) (equal : List ℕ → Bool) → AreNear equal real synced
    → OnFile name Act real during new → (ReadsAlike (real name) (synced name) → Goes Act (synced name) (new name))
    → (inside : Files) × (after : Files) × OnFile name Act synced inside after × AreNear equal new after × ((n : List ℕ) → equal n ≡ true → inside n ≡ during n)
one_file name Act real during new synced equal near steps goes =
    let file = near_file (equal name) Act (real name) (during name) (new name) (synced name) goes steps.file (near name) in (
      inside_now name Act real during new synced equal equal (λ n ne. refl) near steps file,
      after_now name Act real during new synced equal equal (λ n ne. refl) near steps file,
      on_file name Act real during new synced equal equal (λ n ne. refl) near steps file,
      near_now name Act real during new synced equal equal (λ n ne. refl) near steps file,
      same_now name Act real during new synced equal equal (λ n ne. refl) near steps file,
    )

-- a call that changes no file
unchanged_near : (equal : List ℕ → Bool) (real during new synced : Files) → AreNear equal real synced → NoFileChanges real during new → AreNear equal new synced × ((n : List ℕ) → equal n ≡ true → synced n ≡ during n)
unchanged_near equal real during new synced near same = (
  subst (λ (files : Files). AreNear equal files synced) (sym same.1) near,
  λ n on. near_same (equal n) (real n) (synced n) (near n) on ∙ ap (λ (files : Files). files n) (sym same.0),
)

near_reads : (b : Bool) (at len : ℕ) (answer : Option (List ℕ)) (real synced : FileState) → NearBy b real synced → ReadAnswer at len answer real → ReadAnswer at len answer synced
near_reads true at len answer real synced near read = subst (ReadAnswer at len answer) (sym near) read
near_reads false at len answer real synced near read = goes_reads at len answer real synced near read

near_lists : (folder : List ℕ) (answer : Option (List (List ℕ))) (equal : List ℕ → Bool) (real synced : Files) → AreNear equal real synced → ListAnswer folder answer real → ListAnswer folder answer synced
near_lists folder None equal real synced near lists = tt
near_lists folder (Some names) equal real synced near lists =
    let there : (file : List ℕ) → (synced file).there ≡ (real file).there = λ file. near_there (equal file) (real file) (synced file) (near file) in
    record {
      each = subst (λ (is : List ℕ → Bool). All (λ (name : List ℕ). (file : List ℕ) × IsTrue (is file) × IsUnder folder name file) names) (λ i file. sym (there file) i) lists.each;
      all = λ name file is here under. lists.all name file is (sym (there file) ∙ here) under;
    }

disk_near : (call : DiskCall) (answer : DiskAnswer call) (equal : List ℕ → Bool) (real during new synced : Files) → AreNear equal real synced → DiskTransition call answer real during new
    → NearStep call answer equal (equal_after equal (OnDisk call) answer) during new synced
disk_near (Place name bytes) answer equal real during new synced near steps =
    let one = one_file name (PlaceTransition bytes answer) real during new synced equal near steps (λ alike. goes_places bytes answer (real name) (during name) (new name) (synced name) alike steps.file) in
    record { inside = one.0; after = one.1; acts = one.2; near = one.3; same = one.4 }
disk_near (WriteAt name at bytes) answer equal real during new synced near steps =
    let one = one_file name (WriteTransition at bytes answer) real during new synced equal near steps (λ alike. goes_writes at bytes answer (real name) (during name) (new name) (synced name) alike steps.file) in
    record { inside = one.0; after = one.1; acts = one.2; near = one.3; same = one.4 }
disk_near (Sync name) None equal real during new synced near steps =
    let one = one_file name (SyncTransition None) real during new synced equal near steps (λ alike. goes_syncs None (real name) (during name) (new name) (synced name) alike steps.file) in
    record { inside = one.0; after = one.1; acts = one.2; near = one.3; same = one.4 }
disk_near (Sync name) (Some done) equal real during new synced near steps =
    let later : List ℕ → Bool = λ n. bytes_eq n name || equal n in
    let here_it : later name ≡ true = ap (λ (b : Bool). b || equal name) ((bytes_eq-Decides name name).1 refl) in
    let file : NearFile (equal name) (later name) (SyncTransition (Some done)) (during name) (new name) (synced name) =
    subst (λ (b : Bool). NearFile (equal name) b (SyncTransition (Some done)) (during name) (new name) (synced name)) (sym here_it) (near_synced (equal name) (real name) (during name) (new name) (synced name) steps.file (near name)) in
    record {
      inside = inside_now name (SyncTransition (Some done)) real during new synced equal later (apart name equal) near steps file;
      after = after_now name (SyncTransition (Some done)) real during new synced equal later (apart name equal) near steps file;
      acts = on_file name (SyncTransition (Some done)) real during new synced equal later (apart name equal) near steps file;
      near = near_now name (SyncTransition (Some done)) real during new synced equal later (apart name equal) near steps file;
      same = same_now name (SyncTransition (Some done)) real during new synced equal later (apart name equal) near steps file;
    }
  where
    apart : (name : List ℕ) (equal : List ℕ → Bool) (n : List ℕ) → n ≢ name → (bytes_eq n name || equal n) ≡ equal n
    apart name equal n ne = by (bytes_eq n name) refl
      where
        by : (b : Bool) → bytes_eq n name ≡ b → (b || equal n) ≡ equal n
        by true is = absurd (ne ((bytes_eq-Decides n name).0 is))
        by false is = refl
disk_near (Remove name) answer equal real during new synced near steps =
    let one = one_file name (RemoveTransition answer) real during new synced equal near steps (λ alike. goes_removes answer (real name) (during name) (new name) (synced name) alike steps.file) in
    record { inside = one.0; after = one.1; acts = one.2; near = one.3; same = one.4 }
disk_near (Read name at len) answer equal real during new synced near steps =
    let still = unchanged_near equal real during new synced near steps.1 in
    record { inside = synced; after = synced; acts = (near_reads (equal name) at len answer (real name) (synced name) (near name) steps.0, (refl, refl)); near = still.0; same = still.1 }
disk_near (ListNames folder) answer equal real during new synced near steps =
    let still = unchanged_near equal real during new synced near steps.1 in
    record { inside = synced; after = synced; acts = (near_lists folder answer equal real synced near steps.0, (refl, refl)); near = still.0; same = still.1 }
disk_near (Preset name bytes) answer equal real during new synced near steps =
    let Acts : FileState → FileState → FileState → Type 0 = λ _ x y. (x ≡ whole bytes) × (y ≡ whole bytes) in
    let one = one_file name Acts real during new synced equal near steps
    (λ alike. record { inside = whole bytes; after = whole bytes; acts = (refl, refl); alike = subst (λ (f : FileState). ReadsAlike f (whole bytes)) (sym steps.file.1) (record { bytes = refl; there = refl; stays = λ _. refl; none = λ is. is }) }) in
    record { inside = one.0; after = one.1; acts = one.2; near = one.3; same = one.4 }
disk_near (FailAt number) answer equal real during new synced near steps =
    let still = unchanged_near equal real during new synced near steps in
    record { inside = synced; after = synced; acts = (refl, refl); near = still.0; same = still.1 }

-- ---- the calls of a run

record NearChange (call : Call) (answer : Answer call) (equal : List ℕ → Bool) (during new synced : Files) : Type 0 where
  inside : Files
  after : Files
  changes : Changes call answer synced inside after
  near : AreNear (equal_after equal call answer) new after
  same : (n : List ℕ) → equal n ≡ true → inside n ≡ during n

change_near : (call : Call) (answer : Answer call) (equal : List ℕ → Bool) (real during new synced : Files) → AreNear equal real synced → Changes call answer real during new → NearChange call answer equal during new synced
change_near (OnDisk call) answer equal real during new synced near changes =
    let step = disk_near call answer equal real during new synced near changes.1 in
    record { inside = step.inside; after = step.after; changes = (changes.0, step.acts); near = step.near; same = step.same }
change_near (OnLoop call) answer equal real during new synced near changes =
    let still = unchanged_near equal real during new synced near changes in record { inside = synced; after = synced; changes = (refl, refl); near = still.0; same = still.1 }
change_near (OnFiles call) answer equal real during new synced near changes =
    let still = unchanged_near equal real during new synced near changes in record { inside = synced; after = synced; changes = (refl, refl); near = still.0; same = still.1 }
change_near (OnKeeper call) answer equal real during new synced near changes =
    let still = unchanged_near equal real during new synced near changes in record { inside = synced; after = synced; changes = (refl, refl); near = still.0; same = still.1 }
change_near (Note fact) answer equal real during new synced near changes =
    let still = unchanged_near equal real during new synced near changes in record { inside = synced; after = synced; changes = (refl, refl); near = still.0; same = still.1 }

-- the other disk after some calls
pub record Reaches (es : List TraceEntry) (m last : CrashPoint) (equal : List ℕ → Bool) (synced : Files) : Type 0 where
  pub files : Files
  pub along : Ends LeadsTo (crash_point m.past synced) es (crash_point last.past files)
  pub near : AreNear (equal_since equal es) last.files files

pub reaches : (es : List TraceEntry) (m last : CrashPoint) (equal : List ℕ → Bool) (synced : Files) → AreNear equal m.files synced → Ends LeadsTo m es last → Reaches es m last equal synced
reaches [] m last equal synced near along =
    record { files = synced; along = ap (λ (x : CrashPoint). crash_point x.past synced) along; near = subst (λ (x : CrashPoint). AreNear equal x.files synced) (sym along) near }
reaches (e ∷ es) m last equal synced near along =
    let passes = along.2 in
    let change = change_near e.call e.answer equal m.files along.0.files along.1.files synced near passes.0 in
    let rest = reaches es along.1 last (equal_after equal e.call e.answer) change.after change.near along.3 in
    record {
      files = rest.files;
      along = (crash_point along.0.past change.inside, crash_point along.1.past change.after, (change.changes, passes.1, passes.2), rest.along);
      near = rest.near;
    }

-- What holds at each crash point of the other disk holds there of files that are the same for these names.
module _ (Holds : CrashPoint → Type 0) (these : List ℕ → Bool) where
  abbrev pub Shares : CrashPoint → Type 0
  Shares m = (files : Files) × ((n : List ℕ) → these n ≡ true → files n ≡ m.files n) × Holds (crash_point m.past files)

  pub shared : (es : List TraceEntry) (m : CrashPoint) (equal : List ℕ → Bool) (synced : Files) → ((n : List ℕ) → these n ≡ true → equal n ≡ true) → AreNear equal m.files synced
      → AtCrashPoints LeadsTo Holds (crash_point m.past synced) es → AtCrashPoints LeadsTo Shares m es
  shared [] m equal synced among near all = (synced, λ n on. near_same (equal n) (m.files n) (synced n) (near n) (among n on), all)
  shared (e ∷ es) m equal synced among near all = (
    (synced, λ n on. near_same (equal n) (m.files n) (synced n) (near n) (among n on), all.0),
    λ during after leads.
        let change = change_near e.call e.answer equal m.files during.files after.files synced near leads.0 in
        let step = all.1 (crash_point during.past change.inside) (crash_point after.past change.after) (change.changes, leads.1, leads.2) in (
          (change.inside, λ n on. change.same n (among n on), step.0),
          shared es after (equal_after equal e.call e.answer) change.after (λ n on. or_later (is_synced_by e.call e.answer n) (equal n) (among n on)) change.near step.1,
        ),
  )
