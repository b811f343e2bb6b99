use Rattle.std.proofs.Common.{List, [], ap, subst, sym, ◌∙◌, length}
use Rattle.fwd_script.specs.declared.schedule.Given.{Given}
use Rattle.fwd_script.specs.declared.schedule.Planned.{Planned}
use Rattle.fwd_script_loop.specs.declared.call_record.LoopNote.{LoopNote}
use Rattle.fwd_script_loop.specs.RunEvents.{ahead_of}
use Rattle.fwd_script_loop.specs.ScriptRun.{IsKept}
use Rattle.fwd_script_loop.specs.Lines.{coming, given_in}
use Rattle.fwd_script_loop.specs.Place.{beginning}
use Rattle.fwd_script_loop.specs.AnswersLeft.{AnswersLeft}
use Rattle.fwd_script_loop.proofs.PlayedCalls.{kept_new, new_is}
use Rattle.fwd_script_loop.proofs.script.Script.new.Goals as goal

pub invariant_of-result : goal.invariant_of-result
invariant_of-result c =
    let course = c.in_ok-new.field-0 in
    let left = c.in_ok-new-2.field-0 in
    let lines = course.unread.lines in
    let answers = c.from_vec.ensures ∙ c.in_ok-from_slice.ensures.items ∙ c.as_slice.ensures in
    subst (λ (n : List LoopNote). IsKept lines c.from_vec.result n (ahead_of course) left) (sym c.new-3.ensures.items)
    (kept_new lines c.from_vec.result (ahead_of course) left (c.in_ok-new.ensures.ahead ∙ ap (λ (l : List Planned). coming 0 l) (sym c.in_ok-new.ensures.lines))
    (subst (λ (a : List Given). AnswersLeft left (beginning (given_in lines a))) (sym answers) (c.in_ok-new-2.ensures lines)))

pub returns : goal.returns
returns c =
    let course = c.in_ok-new.field-0 in
    let left = c.in_ok-new-2.field-0 in
    new_is c.args.life.now course.unread.lines c.from_vec.result c.is_some.result c.new-3.result.items (length left.links.items)
    c.in_ok-new.ensures.lines (c.from_vec.ensures ∙ c.in_ok-from_slice.ensures.items ∙ c.as_slice.ensures) c.is_some.ensures c.new-3.ensures.items
    (ap length (c.in_ok-new-2.ensures []).links)
