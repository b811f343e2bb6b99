use Rattle.fwd_theorem_trace.proofs.Turns.{walk_is_walked}
use Rattle.fwd_theorem_trace.proofs.dispatch.dispatch_dials_started.Goals as goal

pub returns : goal.returns
returns c s h new entries way = walk_is_walked s h new entries way
