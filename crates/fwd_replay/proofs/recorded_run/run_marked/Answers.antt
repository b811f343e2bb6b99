use Rattle.std.proofs.Common.{◌≡◌, Ok, Some, None, false, ◌∙◌, sym, arith}
use Rattle.fwd_model.specs.CallLogs.{CallLogs}
use Rattle.fwd_engine_state.specs.RefinesAction.{with_all}
use Rattle.fwd_engine_run.specs.OffsetRows.{with_keeper}
use Rattle.fwd_engine_run.proofs.EventCounts.{events_all}
use Rattle.fwd_replay.proofs.RecordedOver.{began_over, began_to_last, ended_keeper, ended_over, finished_keeper, finishes_over, marked_heard, pauses}
use Rattle.fwd_replay.proofs.recorded_run.run_marked.Goals as goal

pub returns-in-Ok-Ended-clause-run : goal.returns-in-Ok-Ended-clause-run
returns-in-Ok-Ended-clause-run g c others s at keeps are =
    let w : CallLogs = with_all None (g.D.Disk.call_log c.args.disk.now) (g.F.Files.call_log c.args.files.now) (with_keeper (g.K.Keeper.call_log c.args.keeper.now) others) in
    let w2 : CallLogs = with_all None (g.D.Disk.call_log c.run_to_last.new.disk) (g.F.Files.call_log c.run_to_last.new.files) (with_keeper (g.K.Keeper.call_log c.run_to_last.new.keeper) others) in
    rw c.finished.ensures
    (ended_over s c.args.ticks c.args.most w w2 w2 c.args.secure.now c.run_to_last.new.outside c.args.ends.now c.run_to_last.new.engine c.in-Ok-Ended.end are
    (rw c.in-Ok-Ended.field-0-is at (c.in-Ok-Ended.ensures.runs others s _ at tt keeps)))

pub returns-in-Ok-Ended-clause-heard : goal.returns-in-Ok-Ended-clause-heard
returns-in-Ok-Ended-clause-heard g c = rw c.finished.ensures (rw c.in-Ok-Ended.field-0-is at c.in-Ok-Ended.ensures.heard)

pub returns-in-Ok-Ended-clause-keeper_cause : goal.returns-in-Ok-Ended-clause-keeper_cause
returns-in-Ok-Ended-clause-keeper_cause g c = rw c.finished.ensures (ended_keeper _ _ c.in-Ok-Ended.end (rw c.in-Ok-Ended.field-0-is at c.in-Ok-Ended.ensures.keeper_cause))

pub returns-in-Err-clause-run : goal.returns-in-Err-clause-run
returns-in-Err-clause-run g c others s at keeps are =
    let w : CallLogs = with_all None (g.D.Disk.call_log c.args.disk.now) (g.F.Files.call_log c.args.files.now) (with_keeper (g.K.Keeper.call_log c.args.keeper.now) others) in
    let w2 : CallLogs = with_all None (g.D.Disk.call_log c.run_to_last.new.disk) (g.F.Files.call_log c.run_to_last.new.files) (with_keeper (g.K.Keeper.call_log c.run_to_last.new.keeper) others) in
    began_over s c.args.ticks c.args.most w w2 w2 c.args.secure.now c.run_to_last.new.outside c.args.ends.now are (c.in-Err.ensures.runs others s _ at tt keeps)

pub returns-then-is_out_of_memory-clause-run : goal.returns-then-is_out_of_memory-clause-run
returns-then-is_out_of_memory-clause-run g c others s at keeps are =
    let w : CallLogs = with_all None (g.D.Disk.call_log c.args.disk.now) (g.F.Files.call_log c.args.files.now) (with_keeper (g.K.Keeper.call_log c.args.keeper.now) others) in
    let w2 : CallLogs = with_all None (g.D.Disk.call_log c.run_to_last.new.disk) (g.F.Files.call_log c.run_to_last.new.files) (with_keeper (g.K.Keeper.call_log c.run_to_last.new.keeper) others) in
    let old = c.args.secure.now in
    let mid = c.run_to_last.new.outside in
    let ticks = c.args.ticks in
    let most = c.args.most in
    let paused = pauses s ticks most w w2 w2 old mid c.args.ends.now c.run_to_last.new.engine c.run_to_last.new.offsets c.in-Ok-AtLast.left are (rw c.in-Ok-AtLast.field-0-is at (c.in-Ok-AtLast.ensures.runs others s _ at tt keeps)) in
    began_to_last s ticks most w w2 w2 old mid c.run_to_last.new.engine c.run_to_last.new.offsets c.in-Ok-AtLast.left paused

pub returns-then-is_out_of_memory-clause-heard : goal.returns-then-is_out_of_memory-clause-heard
returns-then-is_out_of_memory-clause-heard g c = events_all _ 0 (omega arith) c.in-Ok-AtLast.ensures.heard

pub returns-else-is_out_of_memory-clause-run : goal.returns-else-is_out_of_memory-clause-run
returns-else-is_out_of_memory-clause-run g c others s at keeps are =
    let w : CallLogs = with_all None (g.D.Disk.call_log c.args.disk.now) (g.F.Files.call_log c.args.files.now) (with_keeper (g.K.Keeper.call_log c.args.keeper.now) others) in
    let w2 : CallLogs = with_all None (g.D.Disk.call_log c.run_to_last.new.disk) (g.F.Files.call_log c.run_to_last.new.files) (with_keeper (g.K.Keeper.call_log c.run_to_last.new.keeper) others) in
    let w3 : CallLogs = with_all None (g.D.Disk.call_log c.finish-end.new.disk) (g.F.Files.call_log c.finish-end.new.files) (with_keeper (g.K.Keeper.call_log c.finish-end.new.keeper) others) in
    let old = c.args.secure.now in
    let mid = c.run_to_last.new.outside in
    let ticks = c.args.ticks in
    let most = c.args.most in
    let left = c.in-Ok-AtLast.left in
    let kept = c.events_kept-heard.ensures in
    let paused = pauses s ticks most w w2 w3 old mid c.args.ends.now c.run_to_last.new.engine c.run_to_last.new.offsets left are (rw c.in-Ok-AtLast.field-0-is at (c.in-Ok-AtLast.ensures.runs others s _ at tt keeps)) in
    rw c.finished-in-Ok-AtLast.ensures
    (finishes_over s ticks most w w2 w3 old mid c.mark.new.self c.finish-end.new.outside c.run_to_last.new.engine c.finish-end.new.engine c.run_to_last.new.offsets left paused c.mark.ensures c.finish-end.result
    (c.finish-end.ensures.runs others s paused.now paused.at paused.keeps) c.is_secure.ensures (sym c.is_out_of_memory.ensures ∙ c.if-is_out_of_memory.false) kept.recording (kept.log_is ∙ c.below-recorder.ensures.call_log) kept.recorded c.events_kept-heard.result kept.events)

pub returns-else-is_out_of_memory-clause-heard : goal.returns-else-is_out_of_memory-clause-heard
returns-else-is_out_of_memory-clause-heard g c = rw c.finished-in-Ok-AtLast.ensures (marked_heard c.args.secure.now c.run_to_last.new.outside c.mark.new.self c.finish-end.new.outside c.args.most c.in-Ok-AtLast.left c.finish-end.result (Some c.events_kept-heard.result) c.mark.ensures (rw c.in-Ok-AtLast.field-0-is at c.in-Ok-AtLast.ensures.heard) c.finish-end.ensures.heard)

pub returns-else-is_out_of_memory-clause-keeper_cause : goal.returns-else-is_out_of_memory-clause-keeper_cause
returns-else-is_out_of_memory-clause-keeper_cause g c = rw c.finished-in-Ok-AtLast.ensures (finished_keeper _ _ _ c.finish-end.result (Some c.events_kept-heard.result) c.in-Ok-AtLast.ensures.keeper_cause.later c.finish-end.ensures.keeper_later c.finish-end.ensures.got)
