use Rattle.std.proofs.Common.{sym, ◌∙◌}
use Rattle.fwd_script_loop.specs.LinesLeft.{unread}
use Rattle.fwd_script_loop.proofs.EventQueue.{next_here}
use Rattle.fwd_script_loop.proofs.run_events.RunEvents.copy.Goals as goal

pub returns : goal.returns
returns c =
    next_here c.args.paused c.args.self.now.queue (unread c.args.self.now.unread) c.args.at c.requires c.in-Some.coming.now (c.in-Some.ensures.3.1 c.in-Some.coming.now)
    ∙ sym c.in_ok-try_clone-in-Some.ensures
