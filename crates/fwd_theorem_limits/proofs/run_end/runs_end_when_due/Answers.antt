use Rattle.fwd_theorem_limits.proofs.RunEnd.{over_if_due, spent_if_not_due, waits_while_not_due}
use Rattle.fwd_theorem_limits.proofs.run_end.runs_end_when_due.Goals as goal

pub returns-clause-over : goal.returns-clause-over
returns-clause-over c s ends ticks turns lived entries way over = over_if_due s ends ticks turns entries lived way over

pub returns-clause-spent : goal.returns-clause-spent
returns-clause-spent c s ends ticks turns lived entries way spent due = spent_if_not_due s ends ticks turns entries lived way spent due

pub returns-clause-waits : goal.returns-clause-waits
returns-clause-waits c s ends ticks turns before after left until paused brought way due = waits_while_not_due s ends ticks turns before after left until paused brought way due
