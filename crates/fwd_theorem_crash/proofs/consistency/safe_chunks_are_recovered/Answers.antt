use Rattle.fwd_theorem_crash.proofs.Recovery.{found_again}
use Rattle.fwd_theorem_crash.proofs.consistency.safe_chunks_are_recovered.Goals as goal

pub returns : goal.returns
returns c = found_again
