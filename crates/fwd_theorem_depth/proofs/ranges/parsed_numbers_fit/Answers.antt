use Rattle.fwd_theorem_depth.proofs.LineRanges.{parsed_ranged}
use Rattle.fwd_theorem_depth.proofs.ranges.parsed_numbers_fit.Goals as goal

pub returns : goal.returns
returns c = parsed_ranged
