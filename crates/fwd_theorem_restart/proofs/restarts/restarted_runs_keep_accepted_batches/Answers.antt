use Rattle.std.proofs.Common.{List, [], ◌++◌, append_assoc, sym, ap, ◌∙◌}
use Rattle.fwd_outside.proofs.Invariant.{AllInvariant}
use Rattle.fwd_model.specs.Trace.{TraceEntry}
use Rattle.fwd_theorem_crash.specs.CrashPoint.{CrashPoint, crash_point}
use Rattle.fwd_theorem_crash.specs.Safety.{PendingAreSafe}
use Rattle.fwd_theorem_crash.proofs.Completion.{past_is}
use Rattle.fwd_theorem_survival.specs.Survival.{KeepsAccepted}
use Rattle.fwd_theorem_survival.proofs.Points.{points}
use Rattle.fwd_theorem_survival.proofs.KilledProcess.{ends_sound, with_invariant}
use Rattle.fwd_theorem_survival.proofs.KeptBatches.{keeps}
use Rattle.fwd_theorem_restart.proofs.RestartedRun.{whole_run}
use Rattle.fwd_theorem_restart.proofs.restarts.restarted_runs_keep_accepted_batches.Goals as goal

pub returns : goal.returns
returns c s ends ticks turns first loading entries found m left settings full killed loads reaches way =
    let whole = whole_run s first killed ends ticks turns loading entries found m left loads reaches way in
    points (λ (at : CrashPoint). PendingAreSafe s at × AllInvariant at.files) (KeepsAccepted s) loading entries m (past_is (crash_point [] first) m loading reaches)
    (λ own rest at same past safe.
    keeps s ends ticks turns (loading ++ entries) left whole (λ m last image loading h chunk. c.safe_chunks_are_recovered.ensures s m last image loading h chunk)
    (λ h r. c.pending_iff_unresolved.ensures.resolved s h r) (λ h chunk output. c.pending_iff_unresolved.ensures.owed s h chunk output) c.replies_are_due.ensures (loading ++ own) rest at
    (ap (λ (l : List TraceEntry). loading ++ l) same ∙ sym (append_assoc loading own rest)) past safe.0 safe.1)
    (with_invariant (PendingAreSafe s) entries m (ends_sound loading (crash_point [] first) m killed.sound reaches) (c.restarted_runs_are_safe.ensures s ends ticks turns first loading entries found m left settings full killed loads reaches way))
