use Rattle.std.proofs.Common.{sym}
use Rattle.fwd_flush.proofs.Steps.{returned}
use Rattle.fwd_flush.proofs.Programs.{breaks_at, breaks_not, poll_of}
use Rattle.fwd_flush.proofs.flush.Flush.broken.Goals as goal

pub returns-in-Some-clause-calls : goal.returns-in-Some-clause-calls
returns-in-Some-clause-calls g c = rw (breaks_at c.args.self.now.progress c.in-Some.link (sym c.in-Some.ensures)) c.end.ensures.calls

pub returns-in-None-clause-calls : goal.returns-in-None-clause-calls
returns-in-None-clause-calls g c = rw (breaks_not c.args.self.now.progress (sym c.in-None.ensures)) (returned _, poll_of _ _ c.self.view_is _ c.poll.ensures)
