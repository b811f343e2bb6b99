use Rattle.fwd_script_loop.proofs.LineSteps.{happens_alone}
use Rattle.fwd_script_loop.proofs.lines_left.first_of.Goals as goal

pub returns-in_ok-try_clone-in-Happens-clause-first : goal.returns-in_ok-try_clone-in-Happens-clause-first
returns-in_ok-try_clone-in-Happens-clause-first c = λ rest. happens_alone c.args.planned.now c.args.line c.in-Happens.happening _ rest c.in-Happens.is c.requires c.in_ok-try_clone-in-Happens.ensures
