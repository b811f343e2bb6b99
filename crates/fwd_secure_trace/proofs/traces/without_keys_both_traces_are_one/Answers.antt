use Rattle.fwd_secure_trace.proofs.Secured.{unkeyed}
use Rattle.fwd_secure_trace.proofs.traces.without_keys_both_traces_are_one.Goals as goal

pub returns : goal.returns
returns c keys k t above below none so = unkeyed keys none k t above below so
