use Rattle.fwd_secure_trace.proofs.Secured.{carried}
use Rattle.fwd_secure_trace.proofs.traces.secured_calls_are_carried.Goals as goal

pub returns : goal.returns
returns c keys k t above below so = carried keys k t above below so
