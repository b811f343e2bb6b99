use Rattle.std.proofs.Common.{None}
use Rattle.fwd_engine.proofs.engine.Engine.table.Goals as goal

pub returns : goal.returns
returns c s h at = c.table.ensures s h None at.shows.state
