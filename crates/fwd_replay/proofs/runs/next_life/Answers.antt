use Rattle.std.proofs.Common.{refl}
use Rattle.fwd_replay.proofs.RunChain.{follows, on_err}
use Rattle.fwd_replay.proofs.runs.next_life.Goals as goal

pub returns-in_err-outcome-clause-err : goal.returns-in_err-outcome-clause-err
returns-in_err-outcome-clause-err g c = on_err c.from_residual.result refl

pub returns-in_err-add-clause-err : goal.returns-in_err-add-clause-err
returns-in_err-add-clause-err g c = on_err c.from_residual-in_err-add.result c.in_err-add.ensures.err

pub returns-clause-ok : goal.returns-clause-ok
returns-clause-ok g c begins finds =
    let outcome = c.in_ok-outcome.outcome in
    follows c.args.named.now.shown c.args.settings begins c.args.life.now c.args.between.now c.pass_on.new.between c.run_life.new.disk c.run_life.new.files c.run_life.new.keeper c.args.text.now c.add.new.text outcome.text outcome.next c.pass_on.result
    (c.in_ok-outcome.ensures begins finds) c.in_ok-add.ensures.ok c.pass_on.ensures
