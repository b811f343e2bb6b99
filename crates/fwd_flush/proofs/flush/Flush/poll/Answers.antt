use Rattle.fwd_flush.specs.FlushProgram.{delivery}
use Rattle.fwd_flush.proofs.Steps.{returned}
use Rattle.fwd_flush.proofs.Programs.{polls_at, polls_not, stage_of, stage_not, poll_of}
use Rattle.fwd_flush.proofs.flush.Flush.poll.Goals as goal

pub returns-in-Writing-clause-calls : goal.returns-in-Writing-clause-calls
returns-in-Writing-clause-calls g c =
    let at = stage_of _ _ c.self.view_is _ c.in-Writing.is in
    rw (polls_at (delivery g.P.ReplyReader.wanted g.P.ReplyReader.judged c.args.self.now) c.args.self.now.progress c.in-Writing.link at) (c.write.ensures.calls at)

pub returns-in_default-clause-calls : goal.returns-in_default-clause-calls
returns-in_default-clause-calls g c =
    rw (polls_not (delivery g.P.ReplyReader.wanted g.P.ReplyReader.judged c.args.self.now) c.args.self.now.progress (stage_not _ _ c.self.view_is _ c.in_default.not-Writing))
    (returned _, poll_of _ _ c.self.view_is _ c.poll.ensures)
