use Rattle.fwd_filters.specs.FilterFunction.{matching, filtered}
use Rattle.fwd_theorem_depth.proofs.RecordRanges.{all_fit, all_ranged}
use Rattle.fwd_theorem_depth.proofs.FilterRanges.{filtered_ranged}
use Rattle.fwd_theorem_depth.proofs.ranges.filtered_numbers_fit.Goals as goal

pub returns : goal.returns
returns c steps tag events fit = all_fit (filtered steps tag events) (filtered_ranged (matching tag steps) events (all_ranged events fit))
