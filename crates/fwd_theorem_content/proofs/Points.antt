-- Points of a run: between its actions the invariant holds, and at each point each flush so far began with the
-- events of its chunk.
use Rattle.std.proofs.Common.{◌≡◌, ◌∷◌, refl, sym, ◌∙◌, ap, subst}
use Rattle.fwd_outside.specs.Program.{Return, Ask}
use Rattle.fwd_outside.specs.AtCrashPoints.{HoldsThroughout}
use Rattle.fwd_outside.specs.Disk.{DiskProgram}
use Rattle.fwd_outside.specs.DiskStates.{Files, DiskTransition}
use Rattle.fwd_settings.specs.declared.settings_types.AllSettings.{AllSettings}
use Rattle.fwd_model.specs.Fact.{Fact, History}
use Rattle.fwd_model.specs.Trace.{Action, Note}
use Rattle.fwd_model.specs.DeviceActions.{on_disk}
use Rattle.fwd_model.specs.Notes.{note_then, note}
use Rattle.fwd_theorem_trace.specs.Past.{Past, logged}
use Rattle.fwd_theorem_trace.specs.Allowed.{Allowed}
use Rattle.fwd_theorem_crash.specs.CrashPoint.{CrashPoint, LeadsTo}
use Rattle.fwd_theorem_crash.specs.FlushEvents.{FlushesSendTheirChunks}
use Rattle.fwd_theorem_crash.proofs.SimpleFacts.{IsSimple, plain_of, hands_on}
use Rattle.fwd_theorem_crash.proofs.RunTraversal.{after, ReturnsHistoryBy, holds_ask}
use Rattle.fwd_theorem_crash.proofs.DiskPoints.{holds_given}
use Rattle.fwd_theorem_content.proofs.KeptContent.{FilesHaveContents, carried}
use Rattle.fwd_theorem_content.proofs.Histories.{plain_same}
use Rattle.fwd_theorem_content.proofs.FileEffects.{Anything}

module _ (s : AllSettings) where
  pub record InOrder (h : History) (files : Files) : Type 0 where
    pub contents : FilesHaveContents s h files
    pub hands : FlushesSendTheirChunks s h

  -- if a run allows the past of the point
  abbrev pub Hands : CrashPoint → Type 0
  Hands m = Allowed s m.past → FlushesSendTheirChunks s (logged m.past)

  abbrev pub Kept : CrashPoint → Type 0
  Kept m = Allowed s m.past → InOrder (logged m.past) m.files

  abbrev pub Told : History → CrashPoint → Type 0
  Told h end = (h ≡ logged end.past) × Kept end

  pub hands_now : (m : CrashPoint) → Kept m → Hands m
  hands_now m kept due = (kept due).hands

  pub plain_kept : (fact : Fact) (answer : Unit {0}) (m : CrashPoint) → IsSimple fact → Kept m → Kept (after m (Note fact) answer)
  plain_kept fact answer m simple kept due =
      let was = kept due.1 in
      record { contents = carried s (logged m.past) (fact ∷ logged m.past) m.files (plain_same s fact (logged m.past) (plain_of fact simple)) was.contents; hands = hands_on s fact (logged m.past) simple was.hands }

  -- the result of a disk program: nothing was logged, and if a run may have reached this point, the files
  -- have this property
  abbrev pub Came : {R : Type 0} → CrashPoint → (R → Files → Type 0) → R → CrashPoint → Type 0
  Came m Q x end = (logged end.past ≡ logged m.past) × (Allowed s end.past → Allowed s m.past × Q x end.files)

  module _ {R : Type 0} (m : CrashPoint) (Q : R → Files → Type 0) (hands : Hands m) where
    hands_at : (past : Past) → logged past ≡ logged m.past → (Allowed s past → Allowed s m.past) → Allowed s past → FlushesSendTheirChunks s (logged past)
    hands_at past same dues due = subst (FlushesSendTheirChunks s) (sym same) (hands (dues due))

    run_on : (p : DiskProgram R) (at : CrashPoint) → logged at.past ≡ logged m.past → (Allowed s at.past → Allowed s m.past) → HoldsThroughout DiskTransition (λ now. Allowed s m.past → Anything now) (λ x now. Allowed s m.past → Q x now) at.files p
        → HoldsThroughout LeadsTo Hands (λ x end. Came m Q x end) at (on_disk p)
    run_on (Return x) at same dues holds = (hands_at at.past same dues, (same, λ due. (dues due, holds.1 (dues due))))
    run_on (Ask call go) at same dues holds = (
      hands_at at.past same dues,
      λ answer during end passes.
          let went = holds.1 answer during.files end.files passes.0.1 in (
            hands_at during.past (ap logged passes.1 ∙ same) (λ due. dues (subst (Allowed s) passes.1 due)),
            run_on (go answer) end (ap logged passes.2 ∙ same) (λ due. dues (subst (Allowed s) passes.2 due).1) went.1,
          ),
    )

    -- a disk program
    pub runs : (p : DiskProgram R) → (Allowed s m.past → HoldsThroughout DiskTransition Anything Q m.files p) → HoldsThroughout LeadsTo Hands (λ x end. Came m Q x end) m (on_disk p)
    runs p holds = run_on p m refl (λ due. due) (holds_given (Allowed s m.past) Anything Q p m.files holds)

    -- what was logged before it is what is logged after it
    pub hands_after : (x : R) (end : CrashPoint) → Came m Q x end → Hands end
    hands_after x end came = hands_at end.past came.0 (λ due. (came.1 due).0)

  -- a fact is logged after the history so far
  pub notes : {R : Type 0} (Q : R → CrashPoint → Type 0) (fact : Fact) (h : History) (end : CrashPoint) (next : History → Action R) → logged end.past ≡ h → Hands end
      → ((answer : Unit {0}) → HoldsThroughout LeadsTo Hands Q (after end (Note fact) answer) (next (fact ∷ logged end.past))) → HoldsThroughout LeadsTo Hands Q end (note_then fact h next)
  notes Q fact h end next same hands more =
      subst (λ (x : History). HoldsThroughout LeadsTo Hands Q end (note_then fact x next)) same (holds_ask Hands Q end (Note fact) (λ _. next (fact ∷ logged end.past)) tt hands more)

  pub notes_last : (fact : Fact) (h : History) (end : CrashPoint) → logged end.past ≡ h → Hands end → ((answer : Unit {0}) → Kept (after end (Note fact) answer)) → ReturnsHistoryBy Hands Kept end (note fact h)
  notes_last fact h end same hands kept =
      notes Told fact h end (λ x. Return x) same hands (λ answer. (hands_now (after end (Note fact) answer) (kept answer), (refl, kept answer)))
