use Rattle.fwd_frames.proofs.UniqueSplit.{IsSplit-of_stream, IsSplit-only}
use Rattle.fwd_frames.proofs.theorems.parts_of_a_stream.Goals as goal

pub returns-clause-whole : goal.returns-clause-whole
returns-clause-whole c = IsSplit-of_stream

pub returns-clause-only : goal.returns-clause-only
returns-clause-only c = IsSplit-only
