use Rattle.fwd_theorem_crash.proofs.RunFacts.{noted_stays, found_stays}
use Rattle.fwd_theorem_crash.proofs.consistency.recorded_outcomes_stay.Goals as goal

pub returns-clause-logged : goal.returns-clause-logged
returns-clause-logged c s ends ticks turns entries left r way has = noted_stays s ends ticks turns entries left r way has

pub returns-clause-found : goal.returns-clause-found
returns-clause-found c s ends ticks turns entries left r way was = found_stays s ends ticks turns entries left r way was
