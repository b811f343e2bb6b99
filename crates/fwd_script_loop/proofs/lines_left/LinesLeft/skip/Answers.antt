use Rattle.std.proofs.Common.{◌≡◌, ℕ, ◌-◌, ◌++◌, drop, ap, ◌∙◌, arith}
use Rattle.fwd_script_loop.specs.Lines.{coming, ticks}
use Rattle.fwd_script_loop.proofs.LineSteps.{skipped, tick_rest}
use Rattle.fwd_script_loop.proofs.lines_left.LinesLeft.skip.Goals as goal

pub returns-then-self-gt0-clause-rest : goal.returns-then-self-gt0-clause-rest
returns-then-self-gt0-clause-rest c =
    ap (λ (n : ℕ). ticks c.args.self.now.ticks.line n c.args.self.now.ticks.step (c.args.self.now.ticks.count - 1) ++ coming c.args.self.now.at (drop c.args.self.now.at c.args.self.now.lines)) c.saturating_add-self.ensures
    ∙ tick_rest c.args.self.now.ticks.count c.args.self.now.ticks.line c.args.self.now.ticks.reading c.args.self.now.ticks.step (coming c.args.self.now.at (drop c.args.self.now.at c.args.self.now.lines)) c.if-self-gt0.true

pub returns-then-self-len-clause-rest : goal.returns-then-self-len-clause-rest
returns-then-self-len-clause-rest c =
    let u = c.args.self.now in
    let none : u.ticks.count ≡ 0 = omega arith in
    skipped u.lines u.at u.ticks.line u.ticks.reading u.ticks.step u.ticks.count none (omega arith) (c.requires none)
