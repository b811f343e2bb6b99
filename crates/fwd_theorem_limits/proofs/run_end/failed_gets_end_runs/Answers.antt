use Rattle.fwd_theorem_limits.proofs.RunEnd.{last_get, ended_by_get, get_had_failed}
use Rattle.fwd_theorem_limits.proofs.run_end.failed_gets_end_runs.Goals as goal

pub returns-clause-last : goal.returns-clause-last
returns-clause-last c s ends ticks turns before after left db path way = last_get s ends ticks turns before after left db path way

pub returns-clause-ended : goal.returns-clause-ended
returns-clause-ended c s ends ticks turns before lived db path way = ended_by_get s ends ticks turns before lived db path way

pub returns-clause-cause : goal.returns-clause-cause
returns-clause-cause c s ends ticks turns entries lived way ended = get_had_failed s ends ticks turns entries lived way ended
