use Rattle.fwd_engine_state.specs.RefinesAction.{with_all}
use Rattle.fwd_model.specs.CallLogs.{CallLogs}
use Rattle.fwd_engine_run.specs.OffsetRows.{with_keeper}
use Rattle.fwd_replay.specs.RecordedRun.{RanOutOfMemory}
use Rattle.fwd_replay.proofs.KeyedRun.{begins_none}
use Rattle.fwd_replay.proofs.RecordedLoads.{only_begins}
use Rattle.fwd_replay.proofs.recorded_run.run_recorded.Goals as goal

pub returns-in_default-clause-life : goal.returns-in_default-clause-life
returns-in_default-clause-life g c others =
    let w : CallLogs = with_all (g.L.Loop.call_log c.args.outside.now) (g.D.Disk.call_log c.args.disk.now) (g.F.Files.call_log c.args.files.now) (with_keeper (g.K.Keeper.call_log c.args.keeper.now) others) in
    RanOutOfMemory (only_begins c.args.settings c.args.ticks c.args.most w w (begins_none c.args.settings c.args.ticks c.args.most w)) c.without_text.ensures
