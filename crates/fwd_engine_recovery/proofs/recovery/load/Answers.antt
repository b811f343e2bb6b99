use Rattle.std.proofs.Common.{[], sym}
use Rattle.fwd_backlog.specs.declared.error.LoadErr.TheVariants.{Memory}
use Rattle.fwd_engine_state.specs.RefinesAction.{with_disk}
use Rattle.fwd_engine_recovery.proofs.RecoveredParts.{new_shows}
use Rattle.fwd_engine_recovery.proofs.LoadCalls.{loaded_without, not_begun, answered}
use Rattle.fwd_engine_recovery.proofs.recovery.load.Goals as goal

pub returns-in_err-begin-in-None-clause-acts : goal.returns-in_err-begin-in-None-clause-acts
returns-in_err-begin-in-None-clause-acts g c others =
    answered c.args.run.now _ _ c.from_residual.result Memory c.from_residual.ensures.1 (not_begun (with_disk (g.D.Disk.call_log c.args.disk.now) others) c.args.run.now)

pub returns-in_ok-begin-in-None-clause-acts : goal.returns-in_ok-begin-in-None-clause-acts
returns-in_ok-begin-in-None-clause-acts g c others = record {
  history = [];
  did = loaded_without (with_disk (g.D.Disk.call_log c.args.disk.now) others) c.args.run.now (sym c.in-None.ensures);
  shows = new_shows c.args.run.now _ c.in_ok-begin-in-None.ensures;
}
