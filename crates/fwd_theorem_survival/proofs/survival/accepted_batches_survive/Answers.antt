use Rattle.std.proofs.Common.{[], refl}
use Rattle.fwd_outside.proofs.Invariant.{AllInvariant}
use Rattle.fwd_theorem_crash.specs.CrashPoint.{CrashPoint, crash_point}
use Rattle.fwd_theorem_crash.specs.Safety.{IsSafe}
use Rattle.fwd_theorem_crash.proofs.FreshDisk.{sound_fresh}
use Rattle.fwd_theorem_survival.specs.Survival.{KeepsAccepted}
use Rattle.fwd_theorem_survival.proofs.Points.{points}
use Rattle.fwd_theorem_survival.proofs.KilledProcess.{with_invariant}
use Rattle.fwd_theorem_survival.proofs.KeptBatches.{keeps}
use Rattle.fwd_theorem_survival.proofs.survival.accepted_batches_survive.Goals as goal

pub returns : goal.returns
returns c s ends ticks turns first entries left sane full durable way =
    points (λ (m : CrashPoint). IsSafe s first m × AllInvariant m.files) (KeepsAccepted s) [] entries (crash_point [] first) refl
    (λ own rest at same past safe.
    keeps s ends ticks turns entries left way (λ m last image loading h chunk. c.safe_chunks_are_recovered.ensures s m last image loading h chunk)
    (λ h r. c.pending_iff_unresolved.ensures.resolved s h r) (λ h chunk output. c.pending_iff_unresolved.ensures.owed s h chunk output) c.replies_are_due.ensures own rest at same past safe.0.owed safe.1)
    (with_invariant (IsSafe s first) entries (crash_point [] first) (sound_fresh first durable) (c.crash_points_are_safe.ensures s ends ticks turns first entries left sane full durable way))
