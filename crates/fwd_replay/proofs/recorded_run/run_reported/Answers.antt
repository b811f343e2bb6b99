use Rattle.fwd_model.specs.CallLogs.{CallLogs}
use Rattle.std.proofs.Common.{None}
use Rattle.fwd_engine_state.specs.RefinesAction.{with_all}
use Rattle.fwd_engine_run.specs.OffsetRows.{with_keeper}
use Rattle.fwd_replay.specs.RunState.{nowhere}
use Rattle.fwd_replay.specs.Text.{report}
use Rattle.fwd_replay.proofs.LiveRun.{named_unless}
use Rattle.fwd_replay.proofs.RecordedOver.{reports_told, told_disk, told_heard, told_keeper}
use Rattle.fwd_replay.proofs.recorded_run.run_reported.Goals as goal

pub report_of-reported-requires : goal.report_of-reported-requires
report_of-reported-requires g c =
    let of = c.requires in
    let over = c.in-Ok.ensures.run nowhere of.settings of.is.at of.is.keeps of.is.ends in
    named_unless c.args.setup.now.named c.run_marked.new.engine of.settings over.history c.in-Ok.ended.end of.is.is over.at

pub returns-in-Ok-clause-run : goal.returns-in-Ok-clause-run
returns-in-Ok-clause-run g c others s is =
    let a : CallLogs = with_all None (g.D.Disk.call_log c.args.disk.now) (g.F.Files.call_log c.args.files.now) (with_keeper (g.K.Keeper.call_log c.args.keeper.now) others) in
    let b : CallLogs = with_all None (g.D.Disk.call_log c.run_marked.new.disk) (g.F.Files.call_log c.run_marked.new.files) (with_keeper (g.K.Keeper.call_log c.run_marked.new.keeper) others) in
    let over = c.in-Ok.ensures.run others s is.at is.keeps is.ends in
    rw c.told_of.ensures
    (reports_told a b s c.args.setup.now.ticks c.args.setup.now.most c.args.secure.now c.run_marked.new.secure c.run_marked.new.engine c.in-Ok.ended over c.report_of-reported.result (c.report_of-reported.ensures s over.history over.at is.is))

pub returns-in-Ok-clause-heard : goal.returns-in-Ok-clause-heard
returns-in-Ok-clause-heard g c =
    let of = c.requires in
    let over = c.in-Ok.ensures.run nowhere of.settings of.is.at of.is.keeps of.is.ends in
    rw c.told_of.ensures (told_heard _ _ c.args.setup.now.most c.in-Ok.ended (report of.settings over.history) c.report_of-reported.result (c.report_of-reported.ensures of.settings over.history over.at of.is.is) c.in-Ok.ensures.heard)

pub returns-in-Ok-clause-keeper_cause : goal.returns-in-Ok-clause-keeper_cause
returns-in-Ok-clause-keeper_cause g c =
    let of = c.requires in
    let over = c.in-Ok.ensures.run nowhere of.settings of.is.at of.is.keeps of.is.ends in
    rw c.told_of.ensures (told_keeper _ _ c.in-Ok.ended (report of.settings over.history) c.report_of-reported.result (c.report_of-reported.ensures of.settings over.history over.at of.is.is) c.in-Ok.ensures.keeper_cause)

pub returns-in-Ok-clause-disk_cause : goal.returns-in-Ok-clause-disk_cause
returns-in-Ok-clause-disk_cause g c =
    let of = c.requires in
    let over = c.in-Ok.ensures.run nowhere of.settings of.is.at of.is.keeps of.is.ends in
    rw c.told_of.ensures (told_disk _ _ c.in-Ok.ended (report of.settings over.history) c.report_of-reported.result (c.report_of-reported.ensures of.settings over.history over.at of.is.is) c.in-Ok.ensures.disk_later)

pub returns-in-Err-clause-run : goal.returns-in-Err-clause-run
returns-in-Err-clause-run g c others s is = c.in-Err.ensures.run others s is.at is.keeps is.ends
