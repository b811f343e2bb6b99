use Rattle.std.proofs.Common.{suc}
use Rattle.std.specs.Prelude.{None}
use Rattle.fwd_model.specs.CallLogs.{CallLogs}
use Rattle.fwd_model.specs.Run.{run, brought}
use Rattle.fwd_engine_state.specs.RefinesAction.{with_all}
use Rattle.fwd_engine_run.specs.OffsetRows.{with_keeper}
use Rattle.fwd_engine_run.proofs.TurnsToLast.{waited_on, unwaited, turn_after}
use Rattle.fwd_engine_run.proofs.turns.turn.Goals as goal

pub returns-in-Ok-clause-goes : goal.returns-in-Ok-clause-goes
returns-in-Ok-clause-goes g c left others s h at keeps =
    let kept : CallLogs = with_keeper (g.K.Keeper.call_log c.args.keeper.now) others in
    let a : CallLogs = with_all (g.L.Loop.call_log c.args.outside.now) (g.D.Disk.call_log c.args.disk.now) (g.F.Files.call_log c.args.files.now) kept in
    let b : CallLogs = with_all (g.L.Loop.call_log c.wait.new.outside) (g.D.Disk.call_log c.args.disk.now) (g.F.Files.call_log c.args.files.now) kept in
    let w : CallLogs = with_all (g.L.Loop.call_log c.take.new.outside) (g.D.Disk.call_log c.take.new.disk) (g.F.Files.call_log c.take.new.files) (with_keeper (g.K.Keeper.call_log c.take.new.keeper) others) in
    let x = c.in-Ok.happening in
    let ticks = c.args.ticks in
    turn_after a b w s ticks left (run s ticks (suc left) h) (run s None (suc left) h) (brought s ticks (run s ticks left) h x) (brought s None (run s None left) h x) c.take.new.engine c.take.new.offsets c.take.result
    (waited_on a b s ticks h left x (c.in-Ok.ensures.waits a s h at)) (c.take.ensures.goes left others s h at keeps)

pub returns-in-Err-clause-goes : goal.returns-in-Err-clause-goes
returns-in-Err-clause-goes g c left others s h at keeps =
    let a : CallLogs = with_all (g.L.Loop.call_log c.args.outside.now) (g.D.Disk.call_log c.args.disk.now) (g.F.Files.call_log c.args.files.now) (with_keeper (g.K.Keeper.call_log c.args.keeper.now) others) in
    unwaited a _ s c.args.ticks h left (c.in-Err.ensures.waits a s h at)
