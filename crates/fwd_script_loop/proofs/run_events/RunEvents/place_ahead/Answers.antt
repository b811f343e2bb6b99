use Rattle.std.proofs.Common.{◌∙◌}
use Rattle.fwd_script_loop.specs.LinesLeft.{unread}
use Rattle.fwd_script_loop.proofs.EventQueue.{place_behind, place_here}
use Rattle.fwd_script_loop.proofs.run_events.RunEvents.place_ahead.Goals as goal

pub returns-in-Some-get : goal.returns-in-Some-get
returns-in-Some-get c =
    let course = c.args.self.now in
    place_here c.args.paused course.queue (unread course.unread) c.in-Some.at c.in-Some.ensures c.in-Some-get.coming.now (c.in-Some-get.ensures.3.1 c.in-Some-get.coming.now)

pub returns-in-None : goal.returns-in-None
returns-in-None c =
    let course = c.args.self.now in
    c.next_unpaused.ensures ∙ place_behind c.args.paused course.queue (unread course.unread) c.in-None.ensures
