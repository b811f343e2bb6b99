use Rattle.fwd_outside.proofs.LogGrowth.{grew_none}
use Rattle.fwd_flush.specs.FlushProgram.{delivery}
use Rattle.fwd_flush.proofs.Steps.{returned, stayed}
use Rattle.fwd_flush.proofs.Programs.{backs_writing, backs_awaiting, backs_not, stage_of, stage_not, poll_of, heard_waits}
use Rattle.fwd_flush.proofs.flush.Flush.back.Goals as goal

pub returns-in_err-hear-in-Writing-clause-calls : goal.returns-in_err-hear-in-Writing-clause-calls
returns-in_err-hear-in-Writing-clause-calls g c = rw c.in_err-hear-in-Writing.ensures.err (stayed _ _ _ _ c.from_residual.result c.from_residual.ensures.0 (grew_none _))

pub returns-in_ok-hear-in-Writing-clause-calls : goal.returns-in_ok-hear-in-Writing-clause-calls
returns-in_ok-hear-in-Writing-clause-calls g c =
    let is = backs_writing (delivery g.P.ReplyReader.wanted g.P.ReplyReader.judged c.args.self.now) c.args.self.now.progress c.args.bytes.now c.in-Writing.field-0 (stage_of _ _ c.self.view_is _ c.in-Writing.is) in
    rw (is, c.in_ok-hear-in-Writing.ensures.ok)
    (returned _, heard_waits (delivery g.P.ReplyReader.wanted g.P.ReplyReader.judged c.args.self.now) c.args.bytes.now c.args.self.now.progress c.in-Writing.field-0 (stage_of _ _ c.self.view_is _ c.in-Writing.is))

pub returns-in-AwaitingAck-clause-calls : goal.returns-in-AwaitingAck-clause-calls
returns-in-AwaitingAck-clause-calls g c =
    let is = backs_awaiting (delivery g.P.ReplyReader.wanted g.P.ReplyReader.judged c.args.self.now) c.args.self.now.progress c.args.bytes.now c.in-AwaitingAck.link (stage_of _ _ c.self.view_is _ c.in-AwaitingAck.is) in
    rw is c.keep_and_judge.ensures.calls

pub returns-in_default-clause-calls : goal.returns-in_default-clause-calls
returns-in_default-clause-calls g c =
    let is = backs_not (delivery g.P.ReplyReader.wanted g.P.ReplyReader.judged c.args.self.now) c.args.self.now.progress c.args.bytes.now
    (stage_not _ _ c.self.view_is _ c.in_default.not-Writing) (stage_not _ _ c.self.view_is _ c.in_default.not-AwaitingAck) in
    rw is (returned _, poll_of _ _ c.self.view_is _ c.poll.ensures)
