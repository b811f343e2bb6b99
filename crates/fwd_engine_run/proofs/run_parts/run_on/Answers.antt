use Rattle.std.specs.Prelude.{None}
use Rattle.fwd_model.specs.Run.{run}
use Rattle.fwd_engine_run.proofs.RunParts.{ended_alone}
use Rattle.fwd_engine_run.proofs.run_parts.run_on.Goals as goal

pub returns-in-Ok-Ended-clause-runs : goal.returns-in-Ok-Ended-clause-runs
returns-in-Ok-Ended-clause-runs g c others s h at keeps =
    let p = run s None c.args.most h in
    ended_alone _ _ s p p c.turns.new.engine c.turns.new.offsets c.in-Ok-Ended.end (rw c.in-Ok-Ended.field-0-is at (c.in-Ok-Ended.ensures.runs others s h at keeps))

pub returns-in-Err-clause-runs : goal.returns-in-Err-clause-runs
returns-in-Err-clause-runs g c others s h at keeps = c.in-Err.ensures.runs others s h at keeps
