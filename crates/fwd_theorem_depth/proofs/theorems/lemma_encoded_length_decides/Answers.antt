use Rattle.fwd_theorem_depth.proofs.Shallow.{all_tell}
use Rattle.fwd_theorem_depth.proofs.EncodedLengths.{events_fit}
use Rattle.fwd_theorem_depth.proofs.theorems.lemma_encoded_length_decides.Goals as goal

pub returns : goal.returns
returns c events are short = events_fit events (all_tell events are) short
