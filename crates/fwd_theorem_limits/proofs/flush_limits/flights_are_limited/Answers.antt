use Rattle.fwd_theorem_limits.proofs.Backlog.{backlog_fits}
use Rattle.fwd_theorem_limits.proofs.FlightLimits.{few_flights, few_files}
use Rattle.fwd_theorem_limits.proofs.flush_limits.flights_are_limited.Goals as goal

pub returns-clause-outputs : goal.returns-clause-outputs
returns-clause-outputs c s ends ticks turns entries left output way = few_flights s ends ticks turns entries left output way

pub returns-clause-files : goal.returns-clause-files
returns-clause-files c s ends ticks turns entries left way = few_files s ends ticks turns entries left way

pub returns-clause-backlog : goal.returns-clause-backlog
returns-clause-backlog c s ends ticks turns entries left way = backlog_fits s ends ticks turns entries left way
