use Rattle.fwd_theorem_crash.proofs.FlushEvents.{hands_by_then}
use Rattle.fwd_theorem_crash.proofs.consistency.flushes_send_their_chunks.Goals as goal

pub returns : goal.returns
returns c s ends ticks turns first entries left last settings full fresh way along = hands_by_then s settings full first ends ticks turns entries left last fresh way along
