use Rattle.std.specs.Option.{option_copied}
use Rattle.fwd_script.specs.Schedule.{lines_left}
use Rattle.fwd_script.proofs.LineSteps.{judged_err, judged_ok, judged_order}
use Rattle.fwd_script.proofs.reader.ScheduleReader.read.Goals as goal

pub returns-then-not-allows_line-clause-err : goal.returns-then-not-allows_line-clause-err
returns-then-not-allows_line-clause-err c =
    λ _. judged_order c.args.self.now c.args.line.now (lines_left (option_copied c.args.behind)) c.in-Ok.meaning c.allows_line.result c.in-Ok.ensures.ok c.allows_line.ensures c.if-not-allows_line.true

pub returns-in-Err-clause-err : goal.returns-in-Err-clause-err
returns-in-Err-clause-err c =
    λ not_memory. judged_err c.args.self.now c.args.line.now (lines_left (option_copied c.args.behind)) c.in-Err.kind (c.in-Err.ensures.err not_memory)

pub returns-clause-ok : goal.returns-clause-ok
returns-clause-ok c =
    (c.in-Ok.meaning, judged_ok c.args.self.now c.args.line.now (lines_left (option_copied c.args.behind)) c.in-Ok.meaning c.allows_line.result c.in-Ok.ensures.ok c.allows_line.ensures c.if-not-allows_line.false, c.in_ok-put.ensures)
