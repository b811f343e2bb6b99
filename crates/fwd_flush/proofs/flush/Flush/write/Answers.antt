use Rattle.fwd_flush.proofs.Programs.{write_stopped, write_taken, write_fails}
use Rattle.fwd_flush.proofs.flush.Flush.write.Goals as goal

pub returns-in_err-push_rest-clause-calls : goal.returns-in_err-push_rest-clause-calls
returns-in_err-push_rest-clause-calls g c at =
    write_stopped g.P.ReplyReader.wanted g.P.ReplyReader.judged _ _ c.self.view_is _ c.as_slice.ensures c.args.link _ _ _ c.in_err-push_rest.field-0.0 c.in_err-push_rest.ensures.calls c.from_residual.result c.from_residual.ensures.0

pub returns-in-Taken-clause-calls : goal.returns-in-Taken-clause-calls
returns-in-Taken-clause-calls g c at =
    write_taken g.P.ReplyReader.wanted g.P.ReplyReader.judged _ _ c.self.view_is _ c.as_slice.ensures c.args.link _ _ _ _ c.confirm.new.self.progress c.confirm.result (rw c.in-Taken.is at c.in_ok-push_rest.ensures.calls) c.confirm.ensures.calls

pub returns-in-Fails-clause-calls : goal.returns-in-Fails-clause-calls
returns-in-Fails-clause-calls g c at =
    write_fails g.P.ReplyReader.wanted g.P.ReplyReader.judged _ _ c.self.view_is _ c.as_slice.ensures c.args.link _ _ _ _ c.end.new.self.progress c.end.result (rw c.in-Fails.is at c.in_ok-push_rest.ensures.calls) c.end.ensures.calls
