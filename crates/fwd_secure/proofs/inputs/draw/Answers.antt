use Rattle.fwd_secure.specs.Inputs.{draws}
use Rattle.fwd_secure.proofs.RuleSteps.{cut_plain, stopped}
use Rattle.fwd_secure.proofs.InputSteps.{one_drawn, both_drawn}
use Rattle.fwd_secure.proofs.inputs.draw.Goals as goal

pub returns-in_err-first-clause-calls : goal.returns-in_err-first-clause-calls
returns-in_err-first-clause-calls g c = cut_plain _ _ draws c.from_residual.result c.from_residual.ensures.0 (stopped _ _ draws c.in_err-first.ensures.call_log)

pub returns-in_err-second-clause-calls : goal.returns-in_err-second-clause-calls
returns-in_err-second-clause-calls g c =
    cut_plain _ _ draws c.from_residual-in_err-second.result c.from_residual-in_err-second.ensures.0 (one_drawn _ _ _ c.in_ok-first.first c.in_ok-first.ensures.call_log c.in_err-second.ensures.call_log)

pub returns-clause-calls : goal.returns-clause-calls
returns-clause-calls g c = both_drawn _ _ _ c.in_ok-first.first c.in_ok-first.ensures.call_log c.in_ok-second.second c.in_ok-second.ensures.call_log
