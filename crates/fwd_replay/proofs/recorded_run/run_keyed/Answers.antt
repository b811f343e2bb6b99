use Rattle.std.proofs.Common.{◌≡◌, Bool, rules, None, refl, ◌∙◌, ap, subst}
use Rattle.fwd_model.specs.CallLogs.{CallLogs}
use Rattle.fwd_engine_state.specs.RefinesAction.{with_all}
use Rattle.fwd_engine_run.specs.OffsetRows.{with_keeper}
use Rattle.fwd_secure.specs.LoopBelow.{LoopBelow}
use Rattle.fwd_replay.specs.RunState.{nowhere}
use Rattle.fwd_replay.specs.declared.report.Ending.TheVariants as ending
use Rattle.fwd_replay.specs.RecordedParts.{IsUnlessOut}
use Rattle.fwd_replay.proofs.KeyedRun.{faults_below}
use Rattle.fwd_replay.proofs.RecordedBelow.{cause_unless, counts_keyed, faults_keyed, fresh_log, given_of, keyed_answered, runs_below}
use Rattle.fwd_replay.proofs.RecordedSplit.{MadeFor}
use Rattle.fwd_replay.proofs.recorded_run.run_keyed.Goals as goal

pub returns-clause-run : goal.returns-clause-run
returns-clause-run g c others s is =
    let w : CallLogs = with_all None (g.D.Disk.call_log c.args.disk.now) (g.F.Files.call_log c.args.files.now) (with_keeper (g.K.Keeper.call_log c.args.keeper.now) others) in
    let w2 : CallLogs = with_all None (g.D.Disk.call_log c.run_and_finish-outcome.new.disk) (g.F.Files.call_log c.run_and_finish-outcome.new.files) (with_keeper (g.K.Keeper.call_log c.run_and_finish-outcome.new.keeper) others) in
    let before = c.new-secure.result in
    let after = c.run_and_finish-outcome.new.secure in
    let outcome = c.run_and_finish-outcome.result in
    let fresh = c.requires.fresh in
    let ticks = c.args.setup.ticks in
    let turns = c.args.setup.most in
    let over = c.run_and_finish-outcome.ensures.run others s is in
    let name : c.into_inner-recorder.result.ghost_name ≡ before.name = c.into_inner-recorder.ensures.name ∙ (keyed_answered w w2 s ticks turns before after outcome over).1.name in
    let unasked = fresh.log_is ∙ fresh_log fresh.recording fresh.fresh in
    let made : MadeFor s (given_of fresh.recording) before = record {
      keys = c.new-secure.ensures.keys ∙ c.requires.keyed s is.at;
      start = ap (λ (b : LoopBelow). b.call_log) c.new-secure.ensures.start ∙ unasked;
      above = c.new-secure.ensures.above;
    } in
    runs_below s ticks turns w w2 fresh.recording (g.R.Loop.call_log c.args.recorder.now) _ before after fresh.fresh unasked made c.is_secure.ensures (search (rules, name)) after.out_of_memory refl outcome c.unless_out-outcome.result over (subst (λ (b : Bool). IsUnlessOut b outcome c.unless_out-outcome.result) c.is_out_of_memory.ensures c.unless_out-outcome.ensures)

pub returns-clause-heard : goal.returns-clause-heard
returns-clause-heard g c s keyed =
    let before = c.new-secure.result in
    let after = c.run_and_finish-outcome.new.secure in
    let of = c.requires.begun in
    let over = c.run_and_finish-outcome.ensures.run nowhere of.settings of.is in
    let outcome = c.run_and_finish-outcome.result in
    let w : CallLogs = with_all None (g.D.Disk.call_log c.args.disk.now) (g.F.Files.call_log c.args.files.now) (with_keeper (g.K.Keeper.call_log c.args.keeper.now) nowhere) in
    let w2 : CallLogs = with_all None (g.D.Disk.call_log c.run_and_finish-outcome.new.disk) (g.F.Files.call_log c.run_and_finish-outcome.new.files) (with_keeper (g.K.Keeper.call_log c.run_and_finish-outcome.new.keeper) nowhere) in
    let answered = (keyed_answered w w2 of.settings c.args.setup.ticks c.args.setup.most before after outcome over).1 in
    let name : c.into_inner-recorder.result.ghost_name ≡ before.name = c.into_inner-recorder.ensures.name ∙ answered.name in
    counts_keyed s c.args.setup.most before after _ _ outcome c.unless_out-outcome.result of.fits (answered.keys ∙ c.new-secure.ensures.keys ∙ keyed) answered.start c.is_secure.ensures
    (ap (λ (b : LoopBelow). b.counts) c.new-secure.ensures.start) (search (rules, name)) (subst (λ (b : Bool). IsUnlessOut b outcome c.unless_out-outcome.result) c.is_out_of_memory.ensures c.unless_out-outcome.ensures) c.run_and_finish-outcome.ensures.heard

pub returns-clause-keeper_cause : goal.returns-clause-keeper_cause
returns-clause-keeper_cause g c = cause_unless _ _ _ c.run_and_finish-outcome.result c.unless_out-outcome.result ending.KeeperFailed (λ no. absurd (cc no)) c.unless_out-outcome.ensures c.run_and_finish-outcome.ensures.keeper_cause

pub returns-clause-disk_cause : goal.returns-clause-disk_cause
returns-clause-disk_cause g c = cause_unless _ _ _ c.run_and_finish-outcome.result c.unless_out-outcome.result ending.DiskFailed (λ no. absurd (cc no)) c.unless_out-outcome.ensures c.run_and_finish-outcome.ensures.disk_cause

pub returns-clause-loop_cause : goal.returns-clause-loop_cause
returns-clause-loop_cause g c =
    let before = c.new-secure.result in
    let after = c.run_and_finish-outcome.new.secure in
    let of = c.requires.begun in
    let over = c.run_and_finish-outcome.ensures.run nowhere of.settings of.is in
    let outcome = c.run_and_finish-outcome.result in
    let w : CallLogs = with_all None (g.D.Disk.call_log c.args.disk.now) (g.F.Files.call_log c.args.files.now) (with_keeper (g.K.Keeper.call_log c.args.keeper.now) nowhere) in
    let w2 : CallLogs = with_all None (g.D.Disk.call_log c.run_and_finish-outcome.new.disk) (g.F.Files.call_log c.run_and_finish-outcome.new.files) (with_keeper (g.K.Keeper.call_log c.run_and_finish-outcome.new.keeper) nowhere) in
    let answered = (keyed_answered w w2 of.settings c.args.setup.ticks c.args.setup.most before after outcome over).1 in
    let name : c.into_inner-recorder.result.ghost_name ≡ before.name = c.into_inner-recorder.ensures.name ∙ answered.name in
    faults_below before.start.faults after.below.faults _ _ (ap (λ (b : LoopBelow). b.faults) c.new-secure.ensures.start) (search (rules, name))
    (cause_unless _ _ _ outcome c.unless_out-outcome.result ending.LoopFailed (λ no. absurd (cc no)) c.unless_out-outcome.ensures
    (faults_keyed w w2 of.settings c.args.setup.ticks c.args.setup.most before after outcome c.new-secure.ensures.above c.is_secure.ensures answered.start over))
