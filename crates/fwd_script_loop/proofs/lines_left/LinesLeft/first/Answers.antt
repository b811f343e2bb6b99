use Rattle.std.proofs.Common.{◌≡◌, ◌+◌, List, Option, drop, sym, ap, subst, ◌∙◌, arith}
use Rattle.fwd_script.specs.declared.schedule.Planned.{Planned}
use Rattle.fwd_script_loop.specs.declared.queue.Coming.{Coming}
use Rattle.fwd_script_loop.specs.FirstMatch.{first_in}
use Rattle.fwd_script_loop.specs.Lines.{coming}
use Rattle.fwd_script_loop.specs.LinesLeft.{Brings}
use Rattle.fwd_script_loop.proofs.LineSteps.{got, stepped, tick_first}
use Rattle.fwd_script_loop.proofs.lines_left.LinesLeft.first.Goals as goal

pub returns-then-self-gt0-clause-first : goal.returns-then-self-gt0-clause-first
returns-then-self-gt0-clause-first c =
    let u = c.args.self.now in
    tick_first u.ticks.count u.ticks.line u.ticks.reading u.ticks.step (coming u.at (drop u.at u.lines)) c.tick.result c.if-self-gt0.true c.tick.ensures

pub first_of-requires : goal.first_of-requires
first_of-requires c =
    let u = c.args.self.now in
    let none : u.ticks.count ≡ 0 = omega arith in
    subst (λ (o : Option Planned). Brings o) (got u.lines u.at c.in-Some.planned.now c.in-Some.ensures.3.0 (c.in-Some.ensures.3.1 c.in-Some.planned.now)) (c.requires none)

pub returns-in_ok-first_of-in-Some-clause-first : goal.returns-in_ok-first_of-in-Some-clause-first
returns-in_ok-first_of-in-Some-clause-first c =
    let u = c.args.self.now in
    let none : u.ticks.count ≡ 0 = omega arith in
    c.in_ok-first_of-in-Some.ensures.first (coming (u.at + 1) (drop (u.at + 1) u.lines))
    ∙ sym (ap (λ (l : List Coming). first_in l)
    (stepped u.lines u.at u.ticks.line u.ticks.reading u.ticks.step u.ticks.count none c.in-Some.ensures.3.0 c.in-Some.planned.now (c.in-Some.ensures.3.1 c.in-Some.planned.now)))
