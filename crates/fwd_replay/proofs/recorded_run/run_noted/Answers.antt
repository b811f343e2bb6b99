use Rattle.std.proofs.Common.{◌≡◌, rules, None, refl, ◌∙◌, ap}
use Rattle.fwd_outside.specs.Loop.{LoopCounts}
use Rattle.fwd_model.specs.CallLogs.{CallLogs}
use Rattle.fwd_engine_state.specs.RefinesAction.{with_all}
use Rattle.fwd_engine_run.specs.OffsetRows.{with_keeper}
use Rattle.fwd_record.specs.Counting.{log_of as disk_log}
use Rattle.fwd_record.specs.LoopBelow.{LoopBelow}
use Rattle.fwd_replay.specs.RunState.{nowhere}
use Rattle.fwd_replay.specs.declared.report.Ending.TheVariants as ending
use Rattle.fwd_replay.specs.LiveRun.{events_below, heard_in}
use Rattle.fwd_replay.specs.RecordedParts.{ending_told}
use Rattle.fwd_replay.proofs.KeyedRun.{faults_below}
use Rattle.fwd_replay.proofs.RecordedNotes.{below_fits, comes_cause, comes_heard, events_noted, recorder_stays, runs_recorded}
use Rattle.fwd_replay.proofs.recorded_run.run_noted.Goals as goal

pub run_keyed-outcome-requires-clause-fresh : goal.run_keyed-outcome-requires-clause-fresh
run_keyed-outcome-requires-clause-fresh g c = λ κs below. record { recording = c.new-recorder.result; fresh = record { seen = c.new-recorder.ensures.seen; unstopped = c.new-recorder.ensures.stopped }; log_is = refl }

pub returns-clause-life : goal.returns-clause-life
returns-clause-life g c others s is =
    let w : CallLogs = with_all None (disk_log c.args.disk.now) (g.F.Files.call_log c.args.files.now) (with_keeper (g.K.Keeper.call_log c.args.keeper.now) others) in
    let w2 : CallLogs = with_all None (disk_log c.run_keyed-outcome.new.disk) (g.F.Files.call_log c.run_keyed-outcome.new.files) (with_keeper (g.K.Keeper.call_log c.run_keyed-outcome.new.keeper) others) in
    let r0 = c.new-recorder.result in
    let r1 = c.run_keyed-outcome.new.recorder in
    let outcome = c.run_keyed-outcome.result in
    let ticks = c.args.setup.ticks in
    let turns = c.args.setup.most in
    let below = c.run_keyed-outcome.ensures.run others s is in
    let name : c.into_inner-outside.result.ghost_name ≡ r0.name = c.into_inner-outside.ensures.name ∙ (recorder_stays w w2 s ticks turns r0 r1 outcome below).0 in
    runs_recorded s ticks turns w w2 r0 r1 (g.L.Loop.call_log c.args.outside.now) _ (record { seen = c.new-recorder.ensures.seen; unstopped = c.new-recorder.ensures.stopped })
    (ap (λ (b : LoopBelow). b.call_log) c.new-recorder.ensures.start) (search (rules, name)) c.is_recording.ensures
    c.run_keyed-outcome.new.disk.failed (g.L.Loop.counts c.args.outside.now).endless (ap (λ (b : LoopBelow). b.counts.endless) c.new-recorder.ensures.start) outcome below c.ran_of-ran.result c.ran_of-ran.ensures

pub returns-clause-heard : goal.returns-clause-heard
returns-clause-heard g c s keyed =
    let r0 = c.new-recorder.result in
    let r1 = c.run_keyed-outcome.new.recorder in
    let outcome = c.run_keyed-outcome.result in
    let most = c.args.setup.most in
    let of = c.requires.begun in
    let below = c.run_keyed-outcome.ensures.run nowhere of.settings of.is in
    let w : CallLogs = with_all None (disk_log c.args.disk.now) (g.F.Files.call_log c.args.files.now) (with_keeper (g.K.Keeper.call_log c.args.keeper.now) nowhere) in
    let w2 : CallLogs = with_all None (disk_log c.run_keyed-outcome.new.disk) (g.F.Files.call_log c.run_keyed-outcome.new.files) (with_keeper (g.K.Keeper.call_log c.run_keyed-outcome.new.keeper) nowhere) in
    let stays = recorder_stays w w2 of.settings c.args.setup.ticks most r0 r1 outcome below in
    let name : c.into_inner-outside.result.ghost_name ≡ r0.name = c.into_inner-outside.ensures.name ∙ stays.0 in
    let start : r0.start ≡ record { call_log = g.L.Loop.call_log c.args.outside.now; counts = g.L.Loop.counts c.args.outside.now; faults = g.L.Loop.faults c.args.outside.now } = c.new-recorder.ensures.start in
    let noted = events_noted (events_below s (heard_in most (ending_told outcome))) r0 r1 (g.L.Loop.counts c.args.outside.now) _ (below_fits s most (ending_told outcome) of.fits) (ap (λ (b : LoopBelow). b.counts) start) (search (rules, name)) c.new-recorder.ensures.below stays.1 c.is_recording.ensures (c.run_keyed-outcome.ensures.heard s keyed) in
    comes_heard s most _ _ r1 c.run_keyed-outcome.new.disk.failed outcome c.ran_of-ran.result c.ran_of-ran.ensures noted

pub returns-clause-keeper_cause : goal.returns-clause-keeper_cause
returns-clause-keeper_cause g c = comes_cause _ _ _ _ c.run_keyed-outcome.result c.ran_of-ran.result ending.KeeperFailed (λ no. absurd (cc no)) c.ran_of-ran.ensures c.run_keyed-outcome.ensures.keeper_cause

pub returns-clause-disk_cause : goal.returns-clause-disk_cause
returns-clause-disk_cause g c = comes_cause _ _ _ _ c.run_keyed-outcome.result c.ran_of-ran.result ending.DiskFailed (λ no. absurd (cc no)) c.ran_of-ran.ensures c.run_keyed-outcome.ensures.disk_cause

pub returns-clause-loop_cause : goal.returns-clause-loop_cause
returns-clause-loop_cause g c =
    let r0 = c.new-recorder.result in
    let r1 = c.run_keyed-outcome.new.recorder in
    let outcome = c.run_keyed-outcome.result in
    let of = c.requires.begun in
    let below = c.run_keyed-outcome.ensures.run nowhere of.settings of.is in
    let w : CallLogs = with_all None (disk_log c.args.disk.now) (g.F.Files.call_log c.args.files.now) (with_keeper (g.K.Keeper.call_log c.args.keeper.now) nowhere) in
    let w2 : CallLogs = with_all None (disk_log c.run_keyed-outcome.new.disk) (g.F.Files.call_log c.run_keyed-outcome.new.files) (with_keeper (g.K.Keeper.call_log c.run_keyed-outcome.new.keeper) nowhere) in
    let stays = recorder_stays w w2 of.settings c.args.setup.ticks c.args.setup.most r0 r1 outcome below in
    let name : c.into_inner-outside.result.ghost_name ≡ r0.name = c.into_inner-outside.ensures.name ∙ stays.0 in
    faults_below r0.below.faults r1.below.faults (g.L.Loop.faults c.args.outside.now) _ (ap (λ (b : LoopBelow). b.faults) (c.new-recorder.ensures.below ∙ c.new-recorder.ensures.start)) (search (rules, name))
    (comes_cause _ _ _ _ outcome c.ran_of-ran.result ending.LoopFailed (λ no. absurd (cc no)) c.ran_of-ran.ensures c.run_keyed-outcome.ensures.loop_cause)
