use Rattle.std.proofs.Common.{◌≡◌, rules, ◌∙◌, ap}
use Rattle.fwd_engine_state.specs.RefinesAction.{with_all}
use Rattle.fwd_engine_run.specs.OffsetRows.{with_keeper}
use Rattle.fwd_secure.specs.LoopBelow.{LoopBelow}
use Rattle.fwd_replay.specs.LiveRun.{RanOutOfMemory}
use Rattle.fwd_replay.specs.RunState.{nowhere}
use Rattle.fwd_replay.proofs.KeyedRun.{begins_none, counts_below, faults_below, lives_below, loop_cause, same_keys, same_name, same_start}
use Rattle.fwd_replay.proofs.live_run.run_live.Goals as goal

pub returns-in_default-clause-life : goal.returns-in_default-clause-life
returns-in_default-clause-life g c others =
    RanOutOfMemory
    (begins_none c.args.settings c.args.ticks c.args.most (with_all (g.L.Loop.call_log c.args.outside.now) (g.D.Disk.call_log c.args.disk.now) (g.F.Files.call_log c.args.files.now) (with_keeper (g.K.Keeper.call_log c.args.keeper.now) others))) c.without_text.ensures

pub returns-clause-life : goal.returns-clause-life
returns-clause-life g c others =
    let s = c.args.settings in
    let before = c.new-secure.result in
    let after = c.run_over-reported.new.outside in
    let over = c.run_over-reported.ensures.life others in
    let old = g.L.Loop.call_log c.args.outside.now in
    let disk = g.D.Disk.call_log c.args.disk.now in
    let disk2 = g.D.Disk.call_log c.run_over-reported.new.disk in
    let files = g.F.Files.call_log c.args.files.now in
    let files2 = g.F.Files.call_log c.run_over-reported.new.files in
    let keeper = g.K.Keeper.call_log c.args.keeper.now in
    let keeper2 = g.K.Keeper.call_log c.run_over-reported.new.keeper in
    let name : c.into_inner-outside.result.ghost_name ≡ before.name = c.into_inner-outside.ensures.name ∙ same_name s c.args.ticks c.args.most disk disk2 files files2 keeper keeper2 old old before after c.run_over-reported.result over in
    lives_below s c.args.ticks c.args.most disk disk2 files files2 keeper keeper2 old _ before after (c.new-secure.ensures.keys ∙ c.in-Ok.ensures) (ap (λ (b : LoopBelow). b.call_log) c.new-secure.ensures.start) c.new-secure.ensures.above c.is_secure.ensures (search (rules, name))
    c.run_over-reported.result c.checked-reported.result c.checked-reported.ensures over

pub returns-clause-heard : goal.returns-clause-heard
returns-clause-heard g c =
    let s = c.args.settings in
    let before = c.new-secure.result in
    let after = c.run_over-reported.new.outside in
    let over = c.run_over-reported.ensures.life nowhere in
    let old = g.L.Loop.call_log c.args.outside.now in
    let disk = g.D.Disk.call_log c.args.disk.now in
    let disk2 = g.D.Disk.call_log c.run_over-reported.new.disk in
    let files = g.F.Files.call_log c.args.files.now in
    let files2 = g.F.Files.call_log c.run_over-reported.new.files in
    let keeper = g.K.Keeper.call_log c.args.keeper.now in
    let keeper2 = g.K.Keeper.call_log c.run_over-reported.new.keeper in
    let name : c.into_inner-outside.result.ghost_name ≡ before.name = c.into_inner-outside.ensures.name ∙ same_name s c.args.ticks c.args.most disk disk2 files files2 keeper keeper2 old old before after c.run_over-reported.result over in
    let keys = same_keys s c.args.ticks c.args.most disk disk2 files files2 keeper keeper2 old old before after c.run_over-reported.result over ∙ (c.new-secure.ensures.keys ∙ c.in-Ok.ensures) in
    let start = same_start s c.args.ticks c.args.most disk disk2 files files2 keeper keeper2 old old before after c.run_over-reported.result over in
    counts_below s c.args.most before after (g.L.Loop.counts c.args.outside.now) _ c.run_over-reported.result c.checked-reported.result c.ranges.most.fits keys start c.is_secure.ensures (ap (λ (b : LoopBelow). b.counts) c.new-secure.ensures.start) (search (rules, name))
    c.checked-reported.ensures c.run_over-reported.ensures.heard

pub returns-clause-loop_cause : goal.returns-clause-loop_cause
returns-clause-loop_cause g c =
    let s = c.args.settings in
    let before = c.new-secure.result in
    let after = c.run_over-reported.new.outside in
    let over = c.run_over-reported.ensures.life nowhere in
    let old = g.L.Loop.call_log c.args.outside.now in
    let disk = g.D.Disk.call_log c.args.disk.now in
    let disk2 = g.D.Disk.call_log c.run_over-reported.new.disk in
    let files = g.F.Files.call_log c.args.files.now in
    let files2 = g.F.Files.call_log c.run_over-reported.new.files in
    let keeper = g.K.Keeper.call_log c.args.keeper.now in
    let keeper2 = g.K.Keeper.call_log c.run_over-reported.new.keeper in
    let name : c.into_inner-outside.result.ghost_name ≡ before.name = c.into_inner-outside.ensures.name ∙ same_name s c.args.ticks c.args.most disk disk2 files files2 keeper keeper2 old old before after c.run_over-reported.result over in
    faults_below before.start.faults after.below.faults (g.L.Loop.faults c.args.outside.now) _ (ap (λ (b : LoopBelow). b.faults) c.new-secure.ensures.start) (search (rules, name))
    (loop_cause s c.args.ticks c.args.most disk disk2 files files2 keeper keeper2 old old before after c.new-secure.ensures.above c.is_secure.ensures c.run_over-reported.result c.checked-reported.result c.checked-reported.ensures over)
