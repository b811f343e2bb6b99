use Rattle.fwd_script_loop.specs.LinesLeft.{unread}
use Rattle.fwd_script_loop.proofs.EventQueue.{found_at, line_here}
use Rattle.fwd_script_loop.proofs.run_events.RunEvents.line_ahead.Goals as goal

pub returns-in-Some-get-clause-line : goal.returns-in-Some-get-clause-line
returns-in-Some-get-clause-line c =
    let course = c.seek.new.self in
    line_here c.args.paused course.queue (unread course.unread) c.in-Some.at (found_at c.args.paused course _ c.in-Some.at c.in_ok-at.ensures.found c.in-Some.is)
    course.unread.lines c.in-Some-get.coming.now (c.in-Some-get.ensures.3.1 c.in-Some-get.coming.now)
