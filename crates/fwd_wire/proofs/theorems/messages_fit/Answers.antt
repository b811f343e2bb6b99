use Rattle.fwd_wire.proofs.Encodable.{said_fits}
use Rattle.fwd_wire.proofs.theorems.messages_fit.Goals as goal

pub returns : goal.returns
returns c = said_fits
