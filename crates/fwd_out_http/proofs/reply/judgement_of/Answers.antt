use Rattle.std.proofs.Common.{true, false, Some, None, ◌∙◌, refl, arith}
use Rattle.std.proofs.lemmas.Bool.Decides.{nat_tests}
use Rattle.fwd_out_http.proofs.ParserResults.{judged_as}
use Rattle.fwd_out_http.proofs.reply.judgement_of.Goals as goal

pub returns-in-Some : goal.returns-in-Some
returns-in-Some c = c.by_status.ensures ∙ judged_as c.args.retried.now c.args.reply.now c.min.result (Some c.in-Some.status) _ c.min.ensures c.in-Some.ensures refl

pub returns-in-None : goal.returns-in-None
returns-in-None c = judged_as c.args.retried.now c.args.reply.now c.min.result None false c.min.ensures c.in-None.ensures (grind (arith, nat_tests))

pub returns-in-None-2 : goal.returns-in-None-2
returns-in-None-2 c = judged_as c.args.retried.now c.args.reply.now c.min.result None true c.min.ensures c.in-None.ensures (grind (arith, nat_tests))
