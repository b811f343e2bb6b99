use Rattle.std.proofs.Common.{◌∙◌}
use Rattle.fwd_script_loop.specs.LinesLeft.{unread}
use Rattle.fwd_script_loop.proofs.EventQueue.{ends_behind, ends_here, ends_nothing}
use Rattle.fwd_script_loop.proofs.run_events.RunEvents.ends_life.Goals as goal

pub returns-in-Some-get : goal.returns-in-Some-get
returns-in-Some-get c =
    let course = c.args.self.now in
    c.is_last.ensures
    ∙ ends_here c.args.paused course.queue (unread course.unread) c.in-Some.at c.in-Some.ensures course.unread.lines c.in-Some-get.coming.now (c.in-Some-get.ensures.3.1 c.in-Some-get.coming.now)

pub returns-in-Some-next_unpaused : goal.returns-in-Some-next_unpaused
returns-in-Some-next_unpaused c =
    let course = c.args.self.now in
    c.is_last-in-Some-next_unpaused.ensures ∙ ends_behind c.args.paused course.queue (unread course.unread) course.unread.lines c.in-Some-next_unpaused.place c.in-None.ensures c.in-Some-next_unpaused.ensures

pub returns-in-None-next_unpaused : goal.returns-in-None-next_unpaused
returns-in-None-next_unpaused c =
    let course = c.args.self.now in
    ends_nothing c.args.paused course.queue (unread course.unread) course.unread.lines c.in-None.ensures c.in-None-next_unpaused.ensures
