use Rattle.std.specs.Prelude.{None}
use Rattle.fwd_outside.specs.declared.happening.Happening.TheVariants as happening
use Rattle.fwd_model.specs.CallLogs.{CallLogs}
use Rattle.fwd_model.specs.Run.{run, steps_on}
use Rattle.fwd_engine_state.specs.RefinesAction.{with_all}
use Rattle.fwd_engine_run.specs.OffsetRows.{with_keeper}
use Rattle.fwd_engine_run.proofs.EventCounts.{events_after}
use Rattle.fwd_engine_run.proofs.RunTurns.{runs_after}
use Rattle.fwd_engine_run.proofs.run_loop.finish.Goals as goal

pub returns-in-Ok-More-clause-runs : goal.returns-in-Ok-More-clause-runs
returns-in-Ok-More-clause-runs g c others s h at keeps =
    let kept : CallLogs = with_keeper (g.K.Keeper.call_log c.args.keeper.now) others in
    let a : CallLogs = with_all (g.L.Loop.call_log c.args.outside.now) (g.D.Disk.call_log c.args.disk.now) (g.F.Files.call_log c.args.files.now) kept in
    let next = run s None c.args.left in
    let stopped = rw c.in-Ok-More.field-0-is at (c.in-Ok-More.ensures.goes kept s h next c.args.offsets.now at keeps) in
    runs_after a _ _ s (steps_on s next happening.Stop h) (next stopped.0) c.run_on.new.engine c.run_on.result stopped.3 (c.run_on.ensures.runs others s stopped.0 stopped.1 stopped.2)

pub returns-in-Ok-More-clause-heard : goal.returns-in-Ok-More-clause-heard
returns-in-Ok-More-clause-heard g c = events_after _ c.in-Ok-More.ensures.unheard c.run_on.ensures.heard

pub returns-in-Ok-Over-clause-runs : goal.returns-in-Ok-Over-clause-runs
returns-in-Ok-Over-clause-runs g c others s h at keeps =
    let kept : CallLogs = with_keeper (g.K.Keeper.call_log c.args.keeper.now) others in
    let stopped = rw c.in-Ok-Over.field-0-is at (c.in-Ok-Over.ensures.goes kept s h (run s None c.args.left) c.args.offsets.now at keeps) in
    record { history = stopped.0; did = stopped.2; at = stopped.1 }

pub returns-in-Err-Memory-clause-runs : goal.returns-in-Err-Memory-clause-runs
returns-in-Err-Memory-clause-runs g c others s h at keeps =
    let kept : CallLogs = with_keeper (g.K.Keeper.call_log c.args.keeper.now) others in
    rw c.in-Err-Memory.field-0-is at (c.in-Err-Memory.ensures.goes kept s h (run s None c.args.left) c.args.offsets.now at keeps)
