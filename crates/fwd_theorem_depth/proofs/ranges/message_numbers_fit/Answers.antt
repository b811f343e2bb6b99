use Rattle.fwd_theorem_depth.specs.Shallow.{events_of_content}
use Rattle.fwd_theorem_depth.proofs.RecordRanges.{all_fit}
use Rattle.fwd_theorem_depth.proofs.MessageRanges.{message_ranged}
use Rattle.fwd_theorem_depth.proofs.ranges.message_numbers_fit.Goals as goal

pub returns : goal.returns
returns c b s n all is = all_fit (events_of_content s) (message_ranged b s n all is)
