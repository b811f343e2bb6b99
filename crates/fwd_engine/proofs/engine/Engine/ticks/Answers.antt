use Rattle.std.proofs.Common.{None}
use Rattle.fwd_engine.proofs.engine.Engine.ticks.Goals as goal

pub returns : goal.returns
returns c s h at = c.ticks.ensures s h None at.shows.state
