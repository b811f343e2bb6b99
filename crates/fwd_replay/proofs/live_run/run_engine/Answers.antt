use Rattle.std.proofs.Common.{Some}
use Rattle.fwd_model.specs.CallLogs.{CallLogs}
use Rattle.fwd_model.specs.Run.{after_recovery}
use Rattle.fwd_engine_state.specs.RefinesAction.{with_all}
use Rattle.fwd_engine_run.specs.OffsetRows.{with_keeper}
use Rattle.fwd_replay.specs.RunState.{nowhere}
use Rattle.fwd_replay.specs.Text.{report}
use Rattle.fwd_replay.proofs.LiveRun.{disk_cause_live, heard_live, keeper_cause_live, named_unless, run_told}
use Rattle.fwd_replay.proofs.live_run.run_engine.Goals as goal

pub report_of-requires : goal.report_of-requires
report_of-requires g c =
    let of = c.requires in
    let ran = c.in-Ok.ensures.runs nowhere of.settings of.history of.at of.loading of.keeps in
    named_unless c.args.setup.now.named c.run.new.engine of.settings ran.history c.in-Ok.end of.is ran.at

pub returns-in-Ok-clause-run : goal.returns-in-Ok-clause-run
returns-in-Ok-clause-run g c others s h at loading keeps named =
    let a : CallLogs = with_all (g.L.Loop.call_log c.args.outside.now) (g.D.Disk.call_log c.args.disk.now) (g.F.Files.call_log c.args.files.now) (with_keeper (g.K.Keeper.call_log c.args.keeper.now) others) in
    let b : CallLogs = with_all (g.L.Loop.call_log c.run.new.outside) (g.D.Disk.call_log c.run.new.disk) (g.F.Files.call_log c.run.new.files) (with_keeper (g.K.Keeper.call_log c.run.new.keeper) others) in
    let ran = c.in-Ok.ensures.runs others s h at loading keeps in
    run_told s (after_recovery s c.args.setup.now.ends c.args.setup.now.ticks c.args.setup.now.most (Some h)) a b c.run.new.engine c.in-Ok.end ran c.report_of.result (c.report_of.ensures s ran.history ran.at named)

pub returns-in-Ok-clause-heard : goal.returns-in-Ok-clause-heard
returns-in-Ok-clause-heard g c =
    let of = c.requires in
    let ran = c.in-Ok.ensures.runs nowhere of.settings of.history of.at of.loading of.keeps in
    heard_live _ _ c.args.setup.now.most c.in-Ok.end (report of.settings ran.history) c.report_of.result (c.report_of.ensures of.settings ran.history ran.at of.is) c.in-Ok.ensures.heard

pub returns-in-Ok-clause-disk_cause : goal.returns-in-Ok-clause-disk_cause
returns-in-Ok-clause-disk_cause g c =
    let of = c.requires in
    let ran = c.in-Ok.ensures.runs nowhere of.settings of.history of.at of.loading of.keeps in
    disk_cause_live _ _ c.in-Ok.end (report of.settings ran.history) c.report_of.result (c.report_of.ensures of.settings ran.history ran.at of.is) c.in-Ok.ensures.disk_later

pub returns-in-Err-clause-run : goal.returns-in-Err-clause-run
returns-in-Err-clause-run g c others s h at loading keeps named = c.in-Err.ensures.runs others s h at loading keeps

pub returns-in-Ok-clause-keeper_cause : goal.returns-in-Ok-clause-keeper_cause
returns-in-Ok-clause-keeper_cause g c =
    let of = c.requires in
    let ran = c.in-Ok.ensures.runs nowhere of.settings of.history of.at of.loading of.keeps in
    keeper_cause_live _ _ c.in-Ok.end (report of.settings ran.history) c.report_of.result (c.report_of.ensures of.settings ran.history ran.at of.is) c.in-Ok.ensures.keeper_cause
