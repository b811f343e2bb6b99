-- The answer of a link to a push, as it is logged.
use Rattle.fwd_outside.specs.Loop.{PushAnswer, Took, Again, Broke}
use Rattle.fwd_live_sockets.specs.declared.link.Handed.{Handed}
use Rattle.fwd_live_sockets.specs.declared.link.Handed.TheVariants as handed

abbrev pub answered : Handed → PushAnswer
answered (handed.Took bytes) = Took bytes
answered handed.Full = Again
answered handed.Broken = Broke
