use Rattle.std.proofs.Common.{rules}
use Rattle.fwd_replay.proofs.live_run.run_and_drop.Goals as goal

pub run_engine-outcome-requires : goal.run_engine-outcome-requires
run_engine-outcome-requires g c = (search rules, c.requires)

pub returns-clause-run : goal.returns-clause-run
returns-clause-run g c others s h at loading keeps named = c.run_engine-outcome.ensures.run others s h at loading keeps named

pub returns-clause-heard : goal.returns-clause-heard
returns-clause-heard g c = c.run_engine-outcome.ensures.heard

pub returns-clause-disk_cause : goal.returns-clause-disk_cause
returns-clause-disk_cause g c = c.run_engine-outcome.ensures.disk_cause

pub returns-clause-keeper_cause : goal.returns-clause-keeper_cause
returns-clause-keeper_cause g c = c.run_engine-outcome.ensures.keeper_cause
