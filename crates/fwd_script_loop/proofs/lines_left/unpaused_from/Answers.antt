use Rattle.std.proofs.Common.{sym, ◌∙◌, arith}
use Rattle.fwd_script_loop.proofs.LineSteps.{heard_here, heard_later}
use Rattle.fwd_script_loop.proofs.lines_left.unpaused_from.Goals as goal

pub returns-in-Some : goal.returns-in-Some
returns-in-Some c =
    heard_here c.args.paused c.args.lines.now c.loop-i.i c.index-lines-i.result (omega arith) c.index-lines-i.is c.in-Some.behind (c.in-Some.ensures c.loop-i.i)
    ∙ sym c.loop-i.invariant

pub loop-i-preserved : goal.loop-i-preserved
loop-i-preserved c =
    c.loop-i.invariant
    ∙ heard_later c.args.paused c.args.lines.now c.loop-i.i c.index-lines-i.result (omega arith) c.index-lines-i.is (c.in_default.ensures c.loop-i.i)
