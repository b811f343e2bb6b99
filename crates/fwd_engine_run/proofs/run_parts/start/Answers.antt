use Rattle.std.proofs.Common.{Some, None}
use Rattle.fwd_outside.specs.Loop.{Start}
use Rattle.fwd_model.specs.CallLogs.{CallLogs}
use Rattle.fwd_model.specs.Run.{after_start, starts, run}
use Rattle.fwd_model.proofs.Refinement.{loop_uncalled}
use Rattle.fwd_engine_state.specs.RefinesAction.{with_all}
use Rattle.fwd_engine_run.specs.OffsetRows.{with_keeper}
use Rattle.fwd_engine_run.proofs.TurnsToLast.{loop_called_both, pause_after}
use Rattle.fwd_engine_run.proofs.run_parts.start.Goals as goal

pub returns-in-Ready-clause-runs : goal.returns-in-Ready-clause-runs
returns-in-Ready-clause-runs g c others s h at keeps =
    let a : CallLogs = with_all (g.L.Loop.call_log c.args.outside.now) (g.D.Disk.call_log c.args.disk.now) (g.F.Files.call_log c.args.files.now) (with_keeper (g.K.Keeper.call_log c.args.keeper.now) others) in
    let ends = c.args.ends.now in
    let ticks = c.args.ticks in
    let most = c.args.most in
    pause_after a _ _ s ticks (starts s ends ticks most h) (starts s ends None most h) (run s ticks most h) (run s None most h) c.turns.new.engine c.turns.new.offsets c.turns.result
    (loop_called_both a _ (Start ends) (Some tt) (after_start s ticks most h) (after_start s None most h) c.in-Ready.ensures.call_log) (c.turns.ensures.runs others s h at keeps)

pub returns-in-Failed-clause-runs : goal.returns-in-Failed-clause-runs
returns-in-Failed-clause-runs g c others s h at keeps =
    let a : CallLogs = with_all (g.L.Loop.call_log c.args.outside.now) (g.D.Disk.call_log c.args.disk.now) (g.F.Files.call_log c.args.files.now) (with_keeper (g.K.Keeper.call_log c.args.keeper.now) others) in
    (h, tt, loop_called_both a _ (Start c.args.ends.now) None (after_start s c.args.ticks c.args.most h) (after_start s None c.args.most h) c.in-Failed.ensures.call_log)

pub returns-in-Memory-clause-runs : goal.returns-in-Memory-clause-runs
returns-in-Memory-clause-runs g c others s h at keeps =
    let a : CallLogs = with_all (g.L.Loop.call_log c.args.outside.now) (g.D.Disk.call_log c.args.disk.now) (g.F.Files.call_log c.args.files.now) (with_keeper (g.K.Keeper.call_log c.args.keeper.now) others) in
    (starts s c.args.ends.now c.args.ticks c.args.most h, loop_uncalled a _ (starts s c.args.ends.now c.args.ticks c.args.most h) c.in-Memory.ensures.call_log)
