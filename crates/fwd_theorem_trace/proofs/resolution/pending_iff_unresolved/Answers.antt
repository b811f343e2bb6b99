use Rattle.fwd_theorem_trace.proofs.RouteResolution.{resolved_as_ended, owed_as_unresolved}
use Rattle.fwd_theorem_trace.proofs.resolution.pending_iff_unresolved.Goals as goal

pub returns-clause-resolved : goal.returns-clause-resolved
returns-clause-resolved c s h r = resolved_as_ended s h r

pub returns-clause-owed : goal.returns-clause-owed
returns-clause-owed c s h of output = owed_as_unresolved s h of output
