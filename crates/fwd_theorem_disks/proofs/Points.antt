-- Points of a run after its recovery: at each point the disk in memory gave all answers so far, and between two
-- actions the invariant holds.
use Rattle.std.proofs.Common.{◌≡◌, List, ◌∷◌, ◌++◌, refl, sym, ◌∙◌, ap, subst}
use Rattle.fwd_outside.specs.Program.{entry, Return, Ask}
use Rattle.fwd_outside.specs.AtCrashPoints.{HoldsThroughout}
use Rattle.fwd_outside.specs.Disk.{DiskProgram}
use Rattle.fwd_outside.specs.DiskStates.{Files}
use Rattle.fwd_settings.specs.declared.settings_types.AllSettings.{AllSettings}
use Rattle.fwd_model.specs.Fact.{Fact, History}
use Rattle.fwd_model.specs.Trace.{Call, Answer, Action, TraceEntry, OnDisk, Note}
use Rattle.fwd_model.specs.DeviceActions.{on_disk}
use Rattle.fwd_model.specs.Notes.{note_then, note}
use Rattle.fwd_theorem_trace.specs.Past.{Past, logged}
use Rattle.fwd_theorem_trace.specs.Allowed.{Allowed}
use Rattle.fwd_theorem_crash.specs.CrashPoint.{CrashPoint, LeadsTo}
use Rattle.fwd_theorem_crash.proofs.SimpleFacts.{IsSimple, plain_of}
use Rattle.fwd_theorem_crash.proofs.RunTraversal.{after, ReturnsHistoryBy, holds_ask}
use Rattle.fwd_theorem_content.proofs.Histories.{plain_same}
use Rattle.fwd_theorem_disks.proofs.MemFiles.{call_after, mem, RightCall, AllRight}
use Rattle.fwd_theorem_disks.proofs.Fits.{Fits, fits_same}
use Rattle.fwd_theorem_disks.proofs.Pairs.{Goes}

-- `base` are the calls and facts of recovery
module _ (s : AllSettings) (base : Past) where
  pub record Shows (m : CrashPoint) : Type 0 where
    pub since : List TraceEntry
    pub is : m.past ≡ since ++ base
    pub right : Allowed s m.past → AllRight since

  pub record Keeps (m : CrashPoint) : Type 0 where
    pub shows : Shows m
    pub fits : Allowed s m.past → Fits s (logged m.past) m.files (mem shows.since)

  abbrev pub Told : History → CrashPoint → Type 0
  Told h end = (h ≡ logged end.past) × Keeps end

  pub shows_now : (m : CrashPoint) → Keeps m → Shows m
  shows_now m keeps = keeps.shows

  -- a call that isn't on the disk
  pub stays_kept : (call : Call) (answer : Answer call) (m : CrashPoint) → ((files : Files) → call_after call answer files ≡ files) → ((files : Files) → RightCall call answer files) → logged (entry call answer ∷ m.past) ≡ logged m.past → Keeps m
      → Keeps (after m call answer)
  stays_kept call answer m same right logs keeps =
      let e : TraceEntry = entry call answer in
      let since : List TraceEntry = keeps.shows.since in
      record {
        shows = record { since = e ∷ since; is = ap (λ (past : Past). e ∷ past) keeps.shows.is; right = λ due. (right (mem since), keeps.shows.right due.1) };
        fits = λ due.
            subst (λ (files : Files). Fits s (logged (e ∷ m.past)) m.files files) (sym (same (mem since))) (subst (λ (x : History). Fits s x m.files (mem since)) (sym logs) (keeps.fits due.1));
      }

  -- a fact is logged
  abbrev pub shows_noted : (fact : Fact) (answer : Unit {0}) (m : CrashPoint) → Shows m → Shows (after m (Note fact) answer)
  shows_noted fact answer m shows =
      record { since = entry (Note fact) answer ∷ shows.since; is = ap (λ (past : Past). entry (Note fact) answer ∷ past) shows.is; right = λ due. (tt, shows.right due.1) }

  abbrev pub keeps_noted : (fact : Fact) (answer : Unit {0}) (m : CrashPoint) (h : History) → h ≡ logged m.past → (shows : Shows m) → (Allowed s m.past → Fits s (fact ∷ h) m.files (mem shows.since)) → Keeps (after m (Note fact) answer)
  keeps_noted fact answer m h same shows fits =
      record { shows = shows_noted fact answer m shows; fits = λ due. subst (λ (x : History). Fits s (fact ∷ x) m.files (mem shows.since)) same (fits due.1) }

  abbrev pub plain_kept : (fact : Fact) (answer : Unit {0}) (m : CrashPoint) → IsSimple fact → Keeps m → Keeps (after m (Note fact) answer)
  plain_kept fact answer m simple keeps =
      keeps_noted fact answer m (logged m.past) refl keeps.shows
      (λ due. fits_same s (logged m.past) (fact ∷ logged m.past) m.files (mem keeps.shows.since) (plain_same s fact (logged m.past) (plain_of fact simple)) (keeps.fits due))

  -- the result of a disk program: nothing was logged, and if a run may have reached this point, the files of both
  -- disks have this property
  pub record Came {R : Type 0} (m : CrashPoint) (Q : R → Files → Files → Type 0) (x : R) (end : CrashPoint) : Type 0 where
    pub same : logged end.past ≡ logged m.past
    pub shows : Shows end
    pub dues : Allowed s end.past → Allowed s m.past
    pub did : Allowed s end.past → Q x end.files (mem shows.since)

  module _ {R : Type 0} (m : CrashPoint) (Q : R → Files → Files → Type 0) where
    run_on : (p : DiskProgram R) (at : CrashPoint) → logged at.past ≡ logged m.past → (Allowed s at.past → Allowed s m.past) → (shows : Shows at) → (Allowed s m.past → Goes Q at.files (mem shows.since) p)
        → HoldsThroughout LeadsTo Shows (λ x end. Came m Q x end) at (on_disk p)
    run_on (Return x) at same dues shows goes = (shows, record { same = same; shows = shows; dues = dues; did = λ due. goes (dues due) })
    run_on (Ask call go) at same dues shows goes = (
      shows,
      λ answer during end passes.
          let e : TraceEntry = entry (OnDisk call) answer in
          let before : Allowed s end.past → Allowed s at.past = λ due. (subst (Allowed s) passes.2 due).1 in
          let step = λ (due : Allowed s m.past). goes due answer during.files end.files passes.0.1 in
          let now : Shows end = record { since = e ∷ shows.since; is = passes.2 ∙ ap (λ (past : Past). e ∷ past) shows.is; right = λ due. ((step (dues (before due))).0, shows.right (before due)) } in (
            record { since = shows.since; is = passes.1 ∙ shows.is; right = λ due. shows.right (subst (Allowed s) passes.1 due) },
            run_on (go answer) end (ap logged passes.2 ∙ same) (λ due. dues (before due)) now (λ due. (step due).1),
          ),
    )

    -- a disk program
    pub runs : (p : DiskProgram R) (shows : Shows m) → (Allowed s m.past → Goes Q m.files (mem shows.since) p) → HoldsThroughout LeadsTo Shows (λ x end. Came m Q x end) m (on_disk p)
    runs p shows goes = run_on p m refl (λ due. due) shows goes

  -- a fact is logged after the history so far
  pub notes : {R : Type 0} (Q : R → CrashPoint → Type 0) (fact : Fact) (h : History) (end : CrashPoint) (next : History → Action R) → logged end.past ≡ h → Shows end
      → ((answer : Unit {0}) → HoldsThroughout LeadsTo Shows Q (after end (Note fact) answer) (next (fact ∷ logged end.past))) → HoldsThroughout LeadsTo Shows Q end (note_then fact h next)
  notes Q fact h end next same shows more =
      subst (λ (x : History). HoldsThroughout LeadsTo Shows Q end (note_then fact x next)) same (holds_ask Shows Q end (Note fact) (λ _. next (fact ∷ logged end.past)) tt shows more)

  pub notes_last : (fact : Fact) (h : History) (end : CrashPoint) → logged end.past ≡ h → Shows end → ((answer : Unit {0}) → Keeps (after end (Note fact) answer)) → ReturnsHistoryBy Shows Keeps end (note fact h)
  notes_last fact h end same shows kept = notes Told fact h end (λ x. Return x) same shows (λ answer. (shows_now (after end (Note fact) answer) (kept answer), (refl, kept answer)))
