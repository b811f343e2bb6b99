-- What holds of a disk program holds of it as an action, in which nothing is logged.
use Rattle.std.proofs.Common.{◌≡◌, ◌∙◌, ap}
use Rattle.fwd_outside.specs.Program.{Return, Ask}
use Rattle.fwd_outside.specs.AtCrashPoints.{HoldsThroughout}
use Rattle.fwd_outside.specs.Disk.{DiskProgram}
use Rattle.fwd_outside.specs.DiskStates.{Files}
use Rattle.fwd_model.specs.Fact.{History}
use Rattle.fwd_model.specs.DeviceActions.{on_disk}
use Rattle.fwd_theorem_trace.specs.Past.{logged}
use Rattle.fwd_theorem_crash.specs.CrashPoint.{CrashPoint, LeadsTo}
use Rattle.fwd_theorem_crash.proofs.FreshDisk.{DiskSteps}

-- the history is this one, and the files have this property
abbrev pub Still : History → (Files → Type 0) → CrashPoint → Type 0
Still h P m = (logged m.past ≡ h) × P m.files

pub holds_on_disk : {R : Type 0} (h : History) (P : Files → Type 0) (Q : R → Files → Type 0) (m : CrashPoint) (p : DiskProgram R)
    → logged m.past ≡ h → HoldsThroughout DiskSteps P Q m.files p → HoldsThroughout LeadsTo (Still h P) (λ x now. Still h (Q x) now) m (on_disk p)
holds_on_disk h P Q m (Return x) is holds = ((is, holds.0), (is, holds.1))
holds_on_disk h P Q m (Ask call go) is holds = (
  (is, holds.0),
  λ answer during after steps.
      let went = holds.1 answer during.files after.files steps.0 in
      let inside : logged during.past ≡ h = ap logged steps.1 ∙ is in
      let behind : logged after.past ≡ h = ap logged steps.2 ∙ is in
      ((inside, went.0), holds_on_disk h P Q after (go answer) behind went.1),
)
