use Rattle.std.proofs.Common.{refl}
use Rattle.fwd_outside.proofs.LogGrowth.{grew_none}
use Rattle.fwd_flush.specs.FlushProgram.{delivery}
use Rattle.fwd_flush.proofs.Steps.{stayed, returned, silent, replies, wanted_by, judged_by}
use Rattle.fwd_flush.proofs.flush.Flush.confirm.Goals as goal

pub returns-then-not-wanted-clause-calls : goal.returns-then-not-wanted-clause-calls
returns-then-not-wanted-clause-calls g c =
    let is = silent (delivery g.P.ReplyReader.wanted g.P.ReplyReader.judged c.args.self.now) c.args.link c.args.self.now.progress
    (wanted_by _ _ c.self.view_is g.P.ReplyReader.wanted _ _ c.wanted.ensures c.if-not-wanted.true) in
    rw is c.end.ensures.calls

pub returns-in_err-judge-clause-calls : goal.returns-in_err-judge-clause-calls
returns-in_err-judge-clause-calls g c = stayed _ _ _ _ c.from_residual.result c.from_residual.ensures.0 (grew_none _)

pub returns-in-More-clause-calls : goal.returns-in-More-clause-calls
returns-in-More-clause-calls g c =
    let is = replies (delivery g.P.ReplyReader.wanted g.P.ReplyReader.judged c.args.self.now) c.args.link c.args.self.now.progress _
    (wanted_by _ _ c.self.view_is g.P.ReplyReader.wanted _ _ c.wanted.ensures c.if-not-wanted.false)
    (judged_by _ _ c.self.view_is g.P.ReplyReader.judged _ _ _ c.in_ok-judge.ensures c.as_slice.ensures c.in-More.is) in
    rw (is, ← c.self.view_is) (returned _, refl)

pub returns-in-Right-clause-calls : goal.returns-in-Right-clause-calls
returns-in-Right-clause-calls g c =
    let is = replies (delivery g.P.ReplyReader.wanted g.P.ReplyReader.judged c.args.self.now) c.args.link c.args.self.now.progress _
    (wanted_by _ _ c.self.view_is g.P.ReplyReader.wanted _ _ c.wanted.ensures c.if-not-wanted.false)
    (judged_by _ _ c.self.view_is g.P.ReplyReader.judged _ _ _ c.in_ok-judge.ensures c.as_slice.ensures c.in-Right.is) in
    rw is c.end-in-Right.ensures.calls

pub returns-in-Wrong-clause-calls : goal.returns-in-Wrong-clause-calls
returns-in-Wrong-clause-calls g c =
    let is = replies (delivery g.P.ReplyReader.wanted g.P.ReplyReader.judged c.args.self.now) c.args.link c.args.self.now.progress _
    (wanted_by _ _ c.self.view_is g.P.ReplyReader.wanted _ _ c.wanted.ensures c.if-not-wanted.false)
    (judged_by _ _ c.self.view_is g.P.ReplyReader.judged _ _ _ c.in_ok-judge.ensures c.as_slice.ensures c.in-Wrong.is) in
    rw is c.end-in-Wrong.ensures.calls

pub returns-in-Fatal-clause-calls : goal.returns-in-Fatal-clause-calls
returns-in-Fatal-clause-calls g c =
    let is = replies (delivery g.P.ReplyReader.wanted g.P.ReplyReader.judged c.args.self.now) c.args.link c.args.self.now.progress _
    (wanted_by _ _ c.self.view_is g.P.ReplyReader.wanted _ _ c.wanted.ensures c.if-not-wanted.false)
    (judged_by _ _ c.self.view_is g.P.ReplyReader.judged _ _ _ c.in_ok-judge.ensures c.as_slice.ensures c.in-Fatal.is) in
    rw is c.end-in-Fatal.ensures.calls
