use Rattle.std.proofs.Common.{◌+◌, ◌≤◌, List, length, drop, refl, subst}
use Rattle.fwd_settings.specs.declared.settings_types.AllSettings.{AllSettings}
use Rattle.fwd_script.specs.declared.schedule.Life.{Life}
use Rattle.fwd_replay.specs.Runs.{first}
use Rattle.fwd_replay.specs.RunState.{AppendsRun}
use Rattle.fwd_replay.specs.declared.runs.After.{After}
use Rattle.fwd_replay.specs.declared.runs.After.TheVariants as afterwards
use Rattle.fwd_replay.specs.declared.report.Ending.TheVariants as ends
use Rattle.fwd_replay.proofs.RunChain.{begins, ends_all, ends_here, from_here, goes_on, on_err, same_text, wants_here}
use Rattle.fwd_replay.proofs.runs.each_life.Goals as goal

pub loop-life-init : goal.loop-life-init
loop-life-init g c = record {
  same = refl;
  start = first;
  finds = c.requires.first.finds;
  goes = begins c.args.named.now.shown c.args.settings c.args.between.now.left c.args.lives.now c.args.text.now c.args.between.now.cut c.requires.empty c.requires.first.cut;
}

pub returns-in_err-after-clause-err : goal.returns-in_err-after-clause-err
returns-in_err-after-clause-err g c =
    let shown = c.args.named.now.shown in
    let s = c.args.settings in
    let most = c.args.between.now.left in
    let lives = c.args.lives.now in
    let i = c.loop-life.life-index in
    let life = c.life-item.result in
    let inv = c.loop-life.invariant in
    let now = c.loop-life.between in
    let goes = from_here shown s most lives _ c.loop-life.text now.cut now.left inv.start i life c.as_slice-life-items.ensures c.loop-life-test.true c.life-item.is inv.goes in
    on_err c.from_residual.result (same_text shown s most lives ends.Memory c.in_err-after.ensures.err (wants_here shown s most lives c.loop-life.text now.cut now.left inv.start life (drop (i + 1) lives) goes))

pub returns-in-Ends-clause-ok : goal.returns-in-Ends-clause-ok
returns-in-Ends-clause-ok g c =
    let shown = c.args.named.now.shown in
    let s = c.args.settings in
    let most = c.args.between.now.left in
    let lives = c.args.lives.now in
    let i = c.loop-life.life-index in
    let life = c.life-item.result in
    let inv = c.loop-life.invariant in
    let now = c.loop-life.between in
    let goes = from_here shown s most lives _ c.loop-life.text now.cut now.left inv.start i life c.as_slice-life-items.ensures c.loop-life-test.true c.life-item.is inv.goes in
    let came : AppendsRun shown s inv.start life now c.next_life.new.between c.loop-life.text c.next_life.new.text c.in_ok-after.after =
    subst (λ (k : AllSettings). AppendsRun shown k inv.start life now c.next_life.new.between c.loop-life.text c.next_life.new.text c.in_ok-after.after) inv.same (c.in_ok-after.ensures.ok inv.start inv.finds)
    in
    let ended : AppendsRun shown s inv.start life now c.next_life.new.between c.loop-life.text c.next_life.new.text (afterwards.Ends c.in-Ends.ending) =
    subst (λ (a : After). AppendsRun shown s inv.start life now c.next_life.new.between c.loop-life.text c.next_life.new.text a) c.in-Ends.is came
    in
    ends_here shown s most lives c.loop-life.text now.cut now.left inv.start life (drop (i + 1) lives) goes ended.0 c.next_life.new.text c.in-Ends.ending ended.1 ended.2

pub loop-life-preserved : goal.loop-life-preserved
loop-life-preserved g c =
    let shown = c.args.named.now.shown in
    let s = c.args.settings in
    let most = c.args.between.now.left in
    let lives = c.args.lives.now in
    let i = c.loop-life.life-index in
    let life = c.life-item.result in
    let inv = c.loop-life.invariant in
    let now = c.loop-life.between in
    let goes = from_here shown s most lives _ c.loop-life.text now.cut now.left inv.start i life c.as_slice-life-items.ensures c.loop-life-test.true c.life-item.is inv.goes in
    let came : AppendsRun shown s inv.start life now c.next_life.new.between c.loop-life.text c.next_life.new.text c.in_ok-after.after =
    subst (λ (k : AllSettings). AppendsRun shown k inv.start life now c.next_life.new.between c.loop-life.text c.next_life.new.text c.in_ok-after.after) inv.same (c.in_ok-after.ensures.ok inv.start inv.finds)
    in
    let went : AppendsRun shown s inv.start life now c.next_life.new.between c.loop-life.text c.next_life.new.text (afterwards.Life c.in-Life.kept) =
    subst (λ (a : After). AppendsRun shown s inv.start life now c.next_life.new.between c.loop-life.text c.next_life.new.text a) c.in-Life.is came
    in
    record {
      same = went.3;
      start = went.0.next;
      finds = went.4;
      goes =
          goes_on shown s most lives c.loop-life.text now.cut now.left inv.start life (drop (i + 1) lives) goes went.0 c.next_life.new.text c.next_life.new.between.cut c.next_life.new.between.left went.1 went.2 went.5 went.6;
    }

pub returns-clause-ok : goal.returns-clause-ok
returns-clause-ok g c =
    let lives = c.args.lives.now in
    let i = c.loop-life.life-index in
    let inv = c.loop-life.invariant in
    let now = c.loop-life.between in
    let all : length lives ≤ i = subst (λ (l : List Life). length l ≤ i) c.as_slice-life-items.ensures c.loop-life-test.false in
    ends_all c.args.named.now.shown c.args.settings c.args.between.now.left lives c.loop-life.text now.cut now.left inv.start i all inv.goes
