use Rattle.fwd_filters.specs.FilterFunction.{matching, filtered}
use Rattle.fwd_theorem_depth.proofs.Shallow.{all_pass, all_tell}
use Rattle.fwd_theorem_depth.proofs.FilterDepth.{filtered_shallow}
use Rattle.fwd_theorem_depth.proofs.theorems.filtered_events_stay_shallow.Goals as goal

pub returns : goal.returns
returns c steps tag events are = all_pass (filtered steps tag events) (filtered_shallow (matching tag steps) events (all_tell events are))
