use Rattle.fwd_model.specs.CallLogs.{CallLogs}
use Rattle.fwd_engine_state.specs.RefinesAction.{with_all}
use Rattle.fwd_engine_run.specs.OffsetRows.{with_keeper}
use Rattle.fwd_replay.specs.LiveRun.{WasCutShort, WasOver}
use Rattle.fwd_replay.proofs.LiveRun.{begins_first}
use Rattle.fwd_replay.proofs.live_run.run_over.Goals as goal

pub returns-in_default-clause-life : goal.returns-in_default-clause-life
returns-in_default-clause-life g c others =
    let a : CallLogs = with_all (g.L.Loop.call_log c.args.outside.now) (g.D.Disk.call_log c.args.disk.now) (g.F.Files.call_log c.args.files.now) (with_keeper (g.K.Keeper.call_log c.args.keeper.now) others) in
    WasCutShort (begins_first c.args.settings c.args.ticks c.args.most a) c.without_text.ensures

pub returns-in-Ok-begin_and_run-clause-life : goal.returns-in-Ok-begin_and_run-clause-life
returns-in-Ok-begin_and_run-clause-life g c others = WasOver (rw c.in-Ok.ensures.most at (rw c.in-Ok.ensures.ticks at (c.in-Ok-begin_and_run.ensures.life others)))

pub returns-in-Err-clause-life : goal.returns-in-Err-clause-life
returns-in-Err-clause-life g c others = WasCutShort (rw c.in-Ok.ensures.most at (rw c.in-Ok.ensures.ticks at (c.in-Err.ensures.life others))) c.without_text-in-Err.ensures
