use Rattle.std.proofs.Common.{List, subst, sym, ◌∙◌}
use Rattle.fwd_script.specs.declared.schedule.Planned.{Planned}
use Rattle.fwd_script_loop.specs.RunEvents.{ahead_of}
use Rattle.fwd_script_loop.specs.ScriptRun.{IsKept}
use Rattle.fwd_script_loop.proofs.EventQueue.{found_nothing}
use Rattle.fwd_script_loop.proofs.PlayedCalls.{kept_brought, kept_end}
use Rattle.fwd_script_loop.proofs.script.ScriptLoop.wait.Goals as goal

pub invariant_of-self-in_default : goal.invariant_of-self-in_default
invariant_of-self-in_default c =
    let ahead = ahead_of c.seek.new.self in
    subst (λ (l : List Planned). IsKept l c.self.inside.answers c.push_reserved.new.self.items ahead c.self.inside.left) (sym c.seek.ensures.lines)
    (kept_end c.self.inside.course.unread.lines c.self.inside.answers c.self.inside.notes.items (ahead_of c.self.inside.course) c.self.inside.left c.self.invariant
    c.args.until c.args.paused c.reserve.new.self.items c.push_reserved.new.self.items ahead c.reserve.ensures.items c.push_reserved.ensures.items
    c.seek.ensures.same (found_nothing c.args.paused c.seek.new.self c.in_ok-at.field-0 c.in_ok-at.ensures.found c.in_default.is))

pub invariant_of-self-2 : goal.invariant_of-self-2
invariant_of-self-2 c =
    let ahead = ahead_of c.take-happening.new.self in
    subst (λ (l : List Planned). IsKept l c.self.inside.answers c.push_reserved-2.new.self.items ahead c.self.inside.left) (sym (c.take-happening.ensures.lines ∙ c.seek.ensures.lines))
    (kept_brought c.self.inside.course.unread.lines c.self.inside.answers c.self.inside.notes.items (ahead_of c.self.inside.course) c.self.inside.left c.self.invariant
    c.args.until c.args.paused c.in_ok-brought.brought c.reserve.new.self.items c.push_reserved-2.new.self.items (ahead_of c.seek.new.self) ahead c.reserve.ensures.items
    c.push_reserved-2.ensures.items c.seek.ensures.same c.in_ok-brought.ensures c.take-happening.ensures.rest)
