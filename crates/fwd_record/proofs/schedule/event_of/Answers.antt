use Rattle.std.proofs.Common.{subst}
use Rattle.fwd_outside.specs.declared.happening.Happening.{Happening}
use Rattle.fwd_record.specs.Allowed.{IsLine}
use Rattle.fwd_record.proofs.schedule.event_of.Goals as goal

pub returns-in-End-clause-fits : goal.returns-in-End-clause-fits
returns-in-End-clause-fits c = subst (λ (h : Happening). IsLine h) c.in-End.is c.requires.line
