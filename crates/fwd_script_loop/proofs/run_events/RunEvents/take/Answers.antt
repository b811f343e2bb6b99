use Rattle.fwd_script_loop.specs.LinesLeft.{unread}
use Rattle.fwd_script_loop.proofs.EventQueue.{heard_here, may, next_here, rest_here}
use Rattle.fwd_script_loop.proofs.run_events.RunEvents.take.Goals as goal

pub returns-clause-first : goal.returns-clause-first
returns-clause-first c = next_here c.args.paused c.args.self.now.queue (unread c.args.self.now.unread) c.args.at c.requires c.take.result c.take.ensures.value

pub returns-clause-rest : goal.returns-clause-rest
returns-clause-rest c = rest_here c.args.paused c.args.self.now.queue (unread c.args.self.now.unread) c.args.at c.requires c.take.new.self c.take.ensures.rest c.take.result

pub returns-clause-may_come : goal.returns-clause-may_come
returns-clause-may_come c =
    may c.args.paused c.take.result.happening (heard_here c.args.paused c.args.self.now.queue (unread c.args.self.now.unread) c.args.at c.requires c.take.result c.take.ensures.value) c.take.ensures.comes
