use Rattle.std.proofs.Common.{rules}
use Rattle.fwd_replay.proofs.recorded_run.run_and_finish.Goals as goal

pub run_reported-outcome-requires : goal.run_reported-outcome-requires
run_reported-outcome-requires g c = (search rules, c.requires)

pub returns-clause-run : goal.returns-clause-run
returns-clause-run g c others s is = c.run_reported-outcome.ensures.run others s is

pub returns-clause-heard : goal.returns-clause-heard
returns-clause-heard g c = c.run_reported-outcome.ensures.heard

pub returns-clause-disk_cause : goal.returns-clause-disk_cause
returns-clause-disk_cause g c = c.run_reported-outcome.ensures.disk_cause

pub returns-clause-keeper_cause : goal.returns-clause-keeper_cause
returns-clause-keeper_cause g c = c.run_reported-outcome.ensures.keeper_cause
