use Rattle.std.proofs.Common.{rules, None}
use Rattle.fwd_model.specs.CallLogs.{CallLogs, Completes}
use Rattle.fwd_model.specs.RecoveryActions.{recovers}
use Rattle.fwd_engine_state.specs.RefinesAction.{with_all}
use Rattle.fwd_engine_run.specs.OffsetRows.{with_keeper}
use Rattle.fwd_engine_run.proofs.RecoveredHistory.{recovered_is_loading}
use Rattle.fwd_replay.specs.RunState.{nowhere}
use Rattle.fwd_replay.proofs.LiveRun.{begins_load, caused_later, disk_failed, ran_on, to_run}
use Rattle.fwd_replay.proofs.live_run.begin_and_run.Goals as goal

pub run_and_drop-requires : goal.run_and_drop-requires
run_and_drop-requires g c =
    let a : CallLogs = with_all (g.L.Loop.call_log c.args.outside.now) (g.D.Disk.call_log c.args.disk.now) (g.F.Files.call_log c.args.files.now) (with_keeper (g.K.Keeper.call_log c.args.keeper.now) nowhere) in
    let begun = c.in-Ok.ensures.begins a in
    (search rules, to_run c.args.setup c.in-Ok.engine c.args.settings begun.history c.requires.setup.named begun.at (recovered_is_loading c.args.settings begun.did.entries begun.history begun.did.way) c.requires.setup.keeps)

pub returns-in-Ok-clause-life : goal.returns-in-Ok-clause-life
returns-in-Ok-clause-life g c others =
    let a : CallLogs = with_all (g.L.Loop.call_log c.args.outside.now) (g.D.Disk.call_log c.args.disk.now) (g.F.Files.call_log c.args.files.now) (with_keeper (g.K.Keeper.call_log c.args.keeper.now) others) in
    let b : CallLogs = with_all (g.L.Loop.call_log c.args.outside.now) (g.D.Disk.call_log c.begin.new.disk) (g.F.Files.call_log c.args.files.now) (with_keeper (g.K.Keeper.call_log c.args.keeper.now) others) in
    let d : CallLogs = with_all (g.L.Loop.call_log c.run_and_drop.new.outside) (g.D.Disk.call_log c.run_and_drop.new.disk) (g.F.Files.call_log c.run_and_drop.new.files) (with_keeper (g.K.Keeper.call_log c.run_and_drop.new.keeper) others) in
    let begun = c.in-Ok.ensures.begins a in
    ran_on c.args.settings c.args.setup.ticks c.args.setup.most a b d c.args.setup.ends begun.history c.requires.setup.ends begun.did c.run_and_drop.result
    (c.run_and_drop.ensures.run others c.args.settings begun.history begun.at (recovered_is_loading c.args.settings begun.did.entries begun.history begun.did.way) c.requires.setup.keeps c.requires.setup.named)

pub returns-in-Err-DiskFault-clause-life : goal.returns-in-Err-DiskFault-clause-life
returns-in-Err-DiskFault-clause-life g c others =
    let a : CallLogs = with_all (g.L.Loop.call_log c.args.outside.now) (g.D.Disk.call_log c.args.disk.now) (g.F.Files.call_log c.args.files.now) (with_keeper (g.K.Keeper.call_log c.args.keeper.now) others) in
    let b : CallLogs = with_all (g.L.Loop.call_log c.args.outside.now) (g.D.Disk.call_log c.begin.new.disk) (g.F.Files.call_log c.args.files.now) (with_keeper (g.K.Keeper.call_log c.args.keeper.now) others) in
    let did : Completes a b (recovers c.args.settings) None = rw c.in-Err-DiskFault.field-0-is at (c.in-Err-DiskFault.ensures.begins a) in
    disk_failed c.args.settings c.args.setup.ticks c.args.setup.most a b c.without_text.result did c.without_text.ensures

pub returns-clause-life : goal.returns-clause-life
returns-clause-life g c others =
    let a : CallLogs = with_all (g.L.Loop.call_log c.args.outside.now) (g.D.Disk.call_log c.args.disk.now) (g.F.Files.call_log c.args.files.now) (with_keeper (g.K.Keeper.call_log c.args.keeper.now) others) in
    let b : CallLogs = with_all (g.L.Loop.call_log c.args.outside.now) (g.D.Disk.call_log c.begin.new.disk) (g.F.Files.call_log c.args.files.now) (with_keeper (g.K.Keeper.call_log c.args.keeper.now) others) in
    let unfailed = rw c.in-Err-Memory.field-0-is at (c.in-Err-Memory.ensures.begins a) in
    begins_load c.args.settings c.args.setup.ticks c.args.setup.most a b (unfailed.0, unfailed.1)

pub returns-in-Ok-clause-heard : goal.returns-in-Ok-clause-heard
returns-in-Ok-clause-heard g c = c.run_and_drop.ensures.heard

pub returns-in-Ok-clause-disk_cause : goal.returns-in-Ok-clause-disk_cause
returns-in-Ok-clause-disk_cause g c = caused_later _ _ _ c.begin.ensures.cause.later c.run_and_drop.ensures.disk_cause

pub returns-in-Ok-clause-keeper_cause : goal.returns-in-Ok-clause-keeper_cause
returns-in-Ok-clause-keeper_cause g c = c.run_and_drop.ensures.keeper_cause
