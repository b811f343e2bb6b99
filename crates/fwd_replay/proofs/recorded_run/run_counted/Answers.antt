use Rattle.std.proofs.Common.{◌≡◌, rules, ℕ, None, refl, ◌∙◌, ap}
use Rattle.fwd_model.specs.CallLogs.{CallLogs}
use Rattle.fwd_engine_state.specs.RefinesAction.{with_all}
use Rattle.fwd_engine_run.specs.OffsetRows.{with_keeper}
use Rattle.fwd_record.specs.Counting.{Counting, counting}
use Rattle.fwd_record.specs.Failures.{next_number}
use Rattle.fwd_replay.specs.RecordedRun.{first_number}
use Rattle.fwd_replay.specs.RunState.{nowhere}
use Rattle.fwd_replay.proofs.KeyedRun.{faults_below}
use Rattle.fwd_replay.proofs.RecordedLoads.{disk_grew, number_of, runs_counted, same_named}
use Rattle.fwd_replay.proofs.recorded_run.run_counted.Goals as goal

pub returns-clause-life : goal.returns-clause-life
returns-clause-life g c others s is stored =
    let w : CallLogs = with_all (g.L.Loop.call_log c.args.outside.now) None (g.F.Files.call_log c.args.files.now) (with_keeper (g.K.Keeper.call_log c.args.keeper.now) others) in
    let w2 : CallLogs = with_all (g.L.Loop.call_log c.run_noted-ran.new.outside) None (g.F.Files.call_log c.run_noted-ran.new.files) (with_keeper (g.K.Keeper.call_log c.run_noted-ran.new.keeper) others) in
    let d0 = g.D.Disk.call_log c.args.disk.now in
    let faults = g.D.Disk.faults c.args.disk.now in
    let from = c.new-counted.result.name in
    let number = first_number s.service.path in
    let c0 = c.loaded-counted.result in
    let c1 = c.run_noted-ran.new.disk in
    let started : c0 ≡ counting from d0 faults number =
    c.loaded-counted.ensures
    ∙ ap (λ (x : Counting). counting from x.below x.faults (next_number c.calls_to_load-calls.result)) c.new-counted.ensures
    ∙ ap (λ (n : ℕ). counting from d0 faults n) (number_of c.args.stored c.calls_to_load-calls.result s.service.path stored c.calls_to_load-calls.ensures)
    in
    let endless = (g.L.Loop.counts c.args.outside.now).endless in
    let ticks = c.args.setup.ticks in
    let turns = c.args.setup.most in
    let life = c.run_noted-ran.ensures.life others s is in
    let asked = disk_grew from faults number d0 c1.below c0 c1 started c.is_counting.ensures refl s ticks turns w w2 endless c1.failed c.run_noted-ran.result life in
    let name = c.into_inner-disk.ensures.name ∙ same_named from faults number d0 c1.below c0 c1 started c.is_counting.ensures refl asked.0 asked.1 ∙ ap (λ (x : Counting). x.name) c.new-counted.ensures in
    runs_counted from faults number d0 _ c0 c1 started c.is_counting.ensures (search (rules, name)) s ticks turns w w2 endless c.run_noted-ran.result life

pub returns-clause-disk_cause : goal.returns-clause-disk_cause
returns-clause-disk_cause g c =
    let w : CallLogs = with_all (g.L.Loop.call_log c.args.outside.now) None (g.F.Files.call_log c.args.files.now) (with_keeper (g.K.Keeper.call_log c.args.keeper.now) nowhere) in
    let w2 : CallLogs = with_all (g.L.Loop.call_log c.run_noted-ran.new.outside) None (g.F.Files.call_log c.run_noted-ran.new.files) (with_keeper (g.K.Keeper.call_log c.run_noted-ran.new.keeper) nowhere) in
    let d0 = g.D.Disk.call_log c.args.disk.now in
    let faults = g.D.Disk.faults c.args.disk.now in
    let from = c.new-counted.result.name in
    let of = c.requires.begun in
    let number = next_number c.calls_to_load-calls.result in
    let c0 = c.loaded-counted.result in
    let c1 = c.run_noted-ran.new.disk in
    let started : c0 ≡ counting from d0 faults number = c.loaded-counted.ensures ∙ ap (λ (x : Counting). counting from x.below x.faults number) c.new-counted.ensures in
    let asked = disk_grew from faults number d0 c1.below c0 c1 started c.is_counting.ensures refl of.settings c.args.setup.ticks c.args.setup.most w w2 (g.L.Loop.counts c.args.outside.now).endless c1.failed c.run_noted-ran.result (c.run_noted-ran.ensures.life nowhere of.settings of.is) in
    let name = c.into_inner-disk.ensures.name ∙ same_named from faults number d0 c1.below c0 c1 started c.is_counting.ensures refl asked.0 asked.1 ∙ ap (λ (x : Counting). x.name) c.new-counted.ensures in
    faults_below c0.faults c1.faults faults _ (ap (λ (x : Counting). x.faults) started) (search (rules, name)) c.run_noted-ran.ensures.disk_cause
