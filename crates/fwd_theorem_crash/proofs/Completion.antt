-- Each action can come to an end over devices whose calls fail, from any files.
use Rattle.std.proofs.Common.{◌≡◌, ◌≢◌, inr, ℕ, Bool, true, false, if◌then◌else◌, List, [], ◌∷◌, ◌++◌, refl, sym, ◌∙◌, ap, subst}
use Rattle.std.specs.Str.{bytes_eq}
use Rattle.std.proofs.lemmas.Slice.Eq.{bytes_eq-Decides}
use Rattle.std.proofs.lemmas.Bool.{cond-true}
use Rattle.fwd_outside.specs.Program.{entry, Return, Ask, Execution}
use Rattle.fwd_outside.specs.AtCrashPoints.{Ends}
use Rattle.fwd_outside.specs.Disk.{DiskCall, Place, WriteAt, Sync, Remove, Read, ListNames, Preset, FailAt}
use Rattle.fwd_outside.specs.File.{FileState, FileInvariant, whole, whole_or_absent}
use Rattle.fwd_outside.specs.DiskStates.{Files}
use Rattle.fwd_outside.proofs.Invariant.{sound_maybe}
use Rattle.fwd_model.specs.Trace.{Call, OnLoop, OnDisk, OnFiles, OnKeeper, Note, Action, TraceEntry}
use Rattle.fwd_theorem_trace.specs.Past.{past_after}
use Rattle.fwd_theorem_trace.proofs.Failures.{disk_says, says}
use Rattle.fwd_theorem_crash.specs.CrashPoint.{CrashPoint, crash_point, Changes, LeadsTo}

-- the file of this name is replaced
put : List ℕ → FileState → Files → Files
put name file files n = if bytes_eq n name then file else files n

put_here : (name : List ℕ) (file : FileState) (files : Files) → put name file files name ≡ file
unfolding put
put_here name file files = cond-true (bytes_eq name name) file (files name) ((bytes_eq-Decides name name).1 refl)

put_beside : (name : List ℕ) (file : FileState) (files : Files) (n : List ℕ) → n ≢ name → put name file files n ≡ files n
unfolding put
put_beside name file files n ne = by (bytes_eq n name) refl
  where
    by : (b : Bool) → bytes_eq n name ≡ b → (if b then file else files n) ≡ files n
    by true is = absurd (ne ((bytes_eq-Decides n name).0 is))
    by false is = refl

-- the files after a failed call
left_by : DiskCall → Files → Files
left_by (Place name bytes) files = put name (whole_or_absent bytes false) files
left_by (WriteAt name at bytes) files = files
left_by (Sync name) files = files
left_by (Remove name) files = files
left_by (Read name at len) files = files
left_by (ListNames folder) files = files
left_by (Preset name bytes) files = put name (whole bytes) files
left_by (FailAt number) files = files

left_behind : Call → Files → Files
left_behind (OnLoop call) files = files
left_behind (OnDisk call) files = left_by call files
left_behind (OnFiles call) files = files
left_behind (OnKeeper call) files = files
left_behind (Note fact) files = files

unchanged : (name : List ℕ) (files : Files) → (n : List ℕ) → n ≢ name → files n ≡ files n
unchanged name files n ne = refl

disk_fails : (call : DiskCall) (files : Files) → Changes (OnDisk call) (disk_says call) files (left_by call files) (left_by call files)
unfolding disk_says left_by
disk_fails (Place name bytes) files =
    let is = put_here name (whole_or_absent bytes false) files in
    let sound = subst FileInvariant (sym is) (sound_maybe bytes false) in
    (tt, record { file = (sound, sound, λ gone. (is, false, is)); others_during = put_beside name (whole_or_absent bytes false) files; others = put_beside name (whole_or_absent bytes false) files })
disk_fails (WriteAt name at bytes) files = (tt, record { file = inr (refl, refl); others_during = unchanged name files; others = unchanged name files })
disk_fails (Sync name) files = (tt, record { file = (refl, refl); others_during = unchanged name files; others = unchanged name files })
disk_fails (Remove name) files = (tt, record { file = inr (refl, refl); others_during = unchanged name files; others = unchanged name files })
disk_fails (Read name at len) files = (tt, (tt, (refl, refl)))
disk_fails (ListNames folder) files = (tt, (tt, (refl, refl)))
disk_fails (Preset name bytes) files =
    let is = put_here name (whole bytes) files in
    (tt, record { file = (is, is); others_during = put_beside name (whole bytes) files; others = put_beside name (whole bytes) files })
disk_fails (FailAt number) files = (tt, (refl, refl))

fails : (call : Call) (files : Files) → Changes call (says call) files (left_behind call files) (left_behind call files)
unfolding says left_behind
fails (OnLoop call) files = (refl, refl)
fails (OnDisk call) files = disk_fails call files
fails (OnFiles call) files = (refl, refl)
fails (OnKeeper call) files = (refl, refl)
fails (Note fact) files = (refl, refl)

-- with some entries the action comes to a result, from this point
pub record Completes {R : Type 0} (m : CrashPoint) (p : Action R) : Type 0 where
  pub entries : List TraceEntry
  pub result : R
  pub last : CrashPoint
  pub way : Execution p entries (Return result)
  pub along : Ends LeadsTo m entries last

pub completes : {R : Type 0} (p : Action R) (m : CrashPoint) → Completes m p
completes (Return x) m = record { entries = []; result = x; last = m; way = refl; along = refl }
completes (Ask call go) m =
    let files : Files = left_behind call m.files in
    let next : CrashPoint = crash_point (entry call (says call) ∷ m.past) files in
    let more = completes (go (says call)) next in
    record {
      entries = entry call (says call) ∷ more.entries;
      result = more.result;
      last = more.last;
      way = (says call, refl, more.way);
      along = (crash_point m.past files, next, (fails call m.files, refl, refl), more.along);
    }

-- calls that lead to a point, and more after them
pub ends_both : (one last final : CrashPoint) (es more : List TraceEntry) → Ends LeadsTo one es last → Ends LeadsTo last more final → Ends LeadsTo one (es ++ more) final
ends_both one last final [] more first second = subst (λ (x : CrashPoint). Ends LeadsTo x more final) first second
ends_both one last final (e ∷ es) more first second = (first.0, first.1, first.2, ends_both first.1 last final es more first.3 second)

-- the entries so far
pub past_is : (m last : CrashPoint) (es : List TraceEntry) → Ends LeadsTo m es last → last.past ≡ past_after m.past es
past_is m last [] along = ap (λ (x : CrashPoint). x.past) along
past_is m last (e ∷ es) along = past_is along.1 last es along.3 ∙ ap (λ (x : List TraceEntry). past_after x es) along.2.2
