use Rattle.fwd.specs.Run.{OverDevices}
use Rattle.fwd.proofs.run.Goals as goal

-- the devices were made
pub returns : goal.returns
returns g c = OverDevices _ _ c.watched_forwarder.ensures
