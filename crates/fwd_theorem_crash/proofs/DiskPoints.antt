-- Disk programs inside a run: what holds at each point of them, if the run may have reached it.
use Rattle.std.proofs.Common.{◌≡◌, ◌∷◌, refl, sym, ◌∙◌, ap, subst}
use Rattle.fwd_outside.specs.Program.{Return, Ask}
use Rattle.fwd_outside.specs.AtCrashPoints.{HoldsThroughout}
use Rattle.fwd_outside.specs.Disk.{DiskProgram}
use Rattle.fwd_outside.specs.DiskStates.{Files}
use Rattle.fwd_outside.specs.DiskStates as disk
use Rattle.fwd_outside.proofs.Invariant.{AllInvariant, invariant_step}
use Rattle.fwd_settings.specs.declared.settings_types.AllSettings.{AllSettings}
use Rattle.fwd_model.specs.Fact.{Fact, History}
use Rattle.fwd_model.specs.Trace.{Action, Note}
use Rattle.fwd_model.specs.DeviceActions.{on_disk}
use Rattle.fwd_model.specs.Notes.{note_then, note}
use Rattle.fwd_theorem_trace.specs.Past.{Past, logged}
use Rattle.fwd_theorem_trace.specs.Allowed.{Allowed}
use Rattle.fwd_theorem_crash.specs.CrashPoint.{CrashPoint, crash_point, LeadsTo}
use Rattle.fwd_theorem_crash.specs.Safety.{IsSafe}
use Rattle.fwd_theorem_crash.proofs.OrderInvariant.{InOrder, HaveRoom}
use Rattle.fwd_theorem_crash.proofs.Safety.{order_safe}
use Rattle.fwd_theorem_crash.specs.FlushEvents.{FlushesSendTheirChunks}
use Rattle.fwd_theorem_crash.proofs.SimpleFacts.{IsSimple, plain_of, hands_on}
use Rattle.fwd_theorem_crash.proofs.PlainFacts.{plain_order, plain_room}
use Rattle.fwd_theorem_crash.proofs.RunTraversal.{after, ReturnsHistoryBy, holds_ask}

-- what holds after a program: its invariant at each point, that files are sound, and its result's
-- property
pub record HoldsAfter {R : Type 0} (P : Files → Type 0) (Q : R → Files → Type 0) (answer : R) (now : Files) : Type 0 where
  pub going : P now
  pub sound : AllInvariant now
  pub ended : Q answer now

pub with_all : {R : Type 0} (P : Files → Type 0) (Q : R → Files → Type 0) (p : DiskProgram R) (files : Files) → AllInvariant files → HoldsThroughout disk.DiskTransition P Q files p → HoldsThroughout disk.DiskTransition P (HoldsAfter P Q) files p
with_all P Q (Return x) files sound holds = (holds.0, record { going = holds.0; sound = sound; ended = holds.1 })
with_all P Q (Ask call go) files sound holds = (
  holds.0,
  λ answer during end steps.
      let went = holds.1 answer during end steps in
      (went.0, with_all P Q (go answer) end (invariant_step call answer files during end steps sound).1 went.1),
)

-- if a condition implies that it holds, it holds under the condition at each point
pub holds_given : {R : Type 0} (D : Type 0) (P : Files → Type 0) (Q : R → Files → Type 0) (p : DiskProgram R) (files : Files) → (D → HoldsThroughout disk.DiskTransition P Q files p)
    → HoldsThroughout disk.DiskTransition (λ now. D → P now) (λ x now. D → Q x now) files p
holds_given D P Q (Return x) files holds = (λ d. (holds d).0, λ d. (holds d).1)
holds_given D P Q (Ask call go) files holds = (
  λ d. (holds d).0,
  λ answer during end steps. (λ d. ((holds d).1 answer during end steps).0, holds_given D P Q (go answer) end (λ d. ((holds d).1 answer during end steps).1)),
)

module _ (s : AllSettings) (first : Files) where
  pub record Ordered (h : History) (files : Files) : Type 0 where
    pub order : InOrder s first h files
    pub room : HaveRoom h
    pub hands : FlushesSendTheirChunks s h

  -- the point is safe, if a run allows its past
  abbrev pub Safe : CrashPoint → Type 0
  Safe m = Allowed s m.past → IsSafe s first m

  -- the order invariant holds there
  abbrev pub Kept : CrashPoint → Type 0
  Kept m = Allowed s m.past → Ordered (logged m.past) m.files

  abbrev pub Told : History → CrashPoint → Type 0
  Told h end = (h ≡ logged end.past) × Kept end

  pub safe_now : (m : CrashPoint) → Kept m → Safe m
  safe_now m kept due = order_safe s first m.past m.files (kept due).order

  pub still_kept : (m : CrashPoint) → (past : Past) → logged past ≡ logged m.past → (Allowed s past → Allowed s m.past) → Kept m → Kept (crash_point past m.files)
  still_kept m past same dues kept due = subst (λ (h : History). Ordered h m.files) (sym same) (kept (dues due))

  pub plain_kept : (fact : Fact) (answer : Unit {0}) (m : CrashPoint) → IsSimple fact → Kept m → Kept (after m (Note fact) answer)
  plain_kept fact answer m simple kept due =
      let was = kept due.1 in
      let plain = plain_of fact simple in
      record { order = plain_order s first fact (logged m.past) m.files plain was.order; room = plain_room fact (logged m.past) plain was.room; hands = hands_on s fact (logged m.past) simple was.hands }

  -- the result of a disk program: nothing was logged, and if a run may have reached this point, the files
  -- have this property
  abbrev pub Came : {R : Type 0} → CrashPoint → (R → Files → Type 0) → R → CrashPoint → Type 0
  Came m Q x end = (logged end.past ≡ logged m.past) × (Allowed s end.past → Allowed s m.past × Q x end.files)

  module _ {R : Type 0} (m : CrashPoint) (P : Files → Type 0) (Q : R → Files → Type 0) (safe : Allowed s m.past → (past : Past) (now : Files) → logged past ≡ logged m.past → P now → IsSafe s first (crash_point past now)) where
    run_on : (p : DiskProgram R) (at : CrashPoint) → logged at.past ≡ logged m.past → (Allowed s at.past → Allowed s m.past) → HoldsThroughout disk.DiskTransition (λ now. Allowed s m.past → P now) (λ x now. Allowed s m.past → Q x now) at.files p
        → HoldsThroughout LeadsTo Safe (Came m Q) at (on_disk p)
    run_on (Return x) at same dues holds = (λ due. safe (dues due) at.past at.files same (holds.0 (dues due)), (same, λ due. (dues due, holds.1 (dues due))))
    run_on (Ask call go) at same dues holds = (
      λ due. safe (dues due) at.past at.files same (holds.0 (dues due)),
      λ answer during end passes.
          let went = holds.1 answer during.files end.files passes.0.1 in (
            λ due. let was = dues (subst (Allowed s) passes.1 due) in safe was during.past during.files (ap logged passes.1 ∙ same) (went.0 was),
            run_on (go answer) end (ap logged passes.2 ∙ same) (λ due. dues (subst (Allowed s) passes.2 due).1) went.1,
          ),
    )

    -- a disk program, each point of which is safe
    pub runs : (p : DiskProgram R) → (Allowed s m.past → HoldsThroughout disk.DiskTransition P Q m.files p) → HoldsThroughout LeadsTo Safe (Came m Q) m (on_disk p)
    runs p holds = run_on p m refl (λ due. due) (holds_given (Allowed s m.past) P Q p m.files holds)

  -- a fact is logged after the history so far
  pub notes : {R : Type 0} (Q : R → CrashPoint → Type 0) (fact : Fact) (h : History) (end : CrashPoint) (next : History → Action R) → logged end.past ≡ h → Safe end
      → ((answer : Unit {0}) → HoldsThroughout LeadsTo Safe Q (after end (Note fact) answer) (next (fact ∷ logged end.past))) → HoldsThroughout LeadsTo Safe Q end (note_then fact h next)
  notes Q fact h end next same safe more =
      subst (λ (x : History). HoldsThroughout LeadsTo Safe Q end (note_then fact x next)) same (holds_ask Safe Q end (Note fact) (λ _. next (fact ∷ logged end.past)) tt safe more)

  pub notes_last : (fact : Fact) (h : History) (end : CrashPoint) → logged end.past ≡ h → Safe end → ((answer : Unit {0}) → Kept (after end (Note fact) answer)) → ReturnsHistoryBy Safe Kept end (note fact h)
  notes_last fact h end same safe kept =
      notes Told fact h end (λ x. Return x) same safe (λ answer. (safe_now (after end (Note fact) answer) (kept answer), (refl, kept answer)))
