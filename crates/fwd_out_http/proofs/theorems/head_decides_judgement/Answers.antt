use Rattle.std.proofs.Common.{subst}
use Rattle.fwd_out_http.specs.Head.{IsJudged}
use Rattle.fwd_out_http.proofs.Judgement.{judged_is, is_judged}
use Rattle.fwd_out_http.proofs.theorems.head_decides_judgement.Goals as goal

pub returns : goal.returns
returns c = λ ranges reply judged. (λ is. subst (IsJudged ranges reply) is (judged_is ranges reply), is_judged ranges reply judged)
