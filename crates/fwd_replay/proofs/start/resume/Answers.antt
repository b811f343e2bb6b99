use Rattle.std.proofs.Common.{refl}
use Rattle.fwd_model.specs.KeptOffsets.{tracked}
use Rattle.fwd_model.specs.Run.{Over, KeeperFailed, lived}
use Rattle.fwd_engine_run.proofs.OffsetActions.{gets_leave, has_failed, is_done}
use Rattle.fwd_engine_run.proofs.RecoveredHistory.{recovered_is_loading}
use Rattle.fwd_replay.specs.RunState.{nowhere}
use Rattle.fwd_replay.proofs.RunStart.{get_fails, has_begun}
use Rattle.fwd_replay.proofs.start.resume.Goals as goal

pub returns-in-Ok-All : goal.returns-in-Ok-All
returns-in-Ok-All c s begins planned h seen held recovered at keeps stand given unasked =
    let gotten = rw c.in-Ok-All.field-0-is at (c.in-Ok-All.ensures.gets nowhere s h has_failed is_done at (recovered_is_loading s recovered.trace h recovered.way) keeps) in
    let now = gotten.0 in
    let leave = gets_leave s (tracked s) h (lived now Over) gotten.3.entries gotten.3.way in
    (now, has_begun s begins planned seen h recovered c.args.keeper.now c.get.new.keeper given unasked c.is_played.ensures (lived now Over) gotten.3.entries leave gotten.3.asked.keeper now refl held (record { engine = c.get.new.engine; offsets = c.get.new.self }) stand gotten.1 gotten.2)

pub returns-in-Ok-Failed : goal.returns-in-Ok-Failed
returns-in-Ok-Failed c s begins planned h seen held recovered at keeps stand given unasked =
    let gotten = rw c.in-Ok-Failed.field-0-is at (c.in-Ok-Failed.ensures.gets nowhere s h has_failed is_done at (recovered_is_loading s recovered.trace h recovered.way) keeps) in
    let now = gotten.0 in
    let leave = gets_leave s (tracked s) h (lived now KeeperFailed) gotten.1.entries gotten.1.way in
    (now, get_fails s begins planned seen h recovered c.args.keeper.now c.get.new.keeper given unasked c.is_played-in-Ok-Failed.ensures (lived now KeeperFailed) gotten.1.entries leave gotten.1.asked.keeper now refl)
