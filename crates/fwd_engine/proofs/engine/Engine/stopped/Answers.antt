use Rattle.std.proofs.Common.{None}
use Rattle.fwd_engine.proofs.engine.Engine.stopped.Goals as goal

pub returns : goal.returns
returns c s h at = c.stopped.ensures s h None at.shows.state
