use Rattle.fwd_theorem_crash.proofs.OffsetCalls.{gets_reached, gets_end, puts_reached, puts_end}
use Rattle.fwd_theorem_crash.proofs.consistency.offset_calls_are_reached.Goals as goal

pub returns-clause-gets : goal.returns-clause-gets
returns-clause-gets c = gets_reached

pub returns-clause-got : goal.returns-clause-got
returns-clause-got c = gets_end

pub returns-clause-puts : goal.returns-clause-puts
returns-clause-puts c = puts_reached

pub returns-clause-put : goal.returns-clause-put
returns-clause-put c = puts_end
