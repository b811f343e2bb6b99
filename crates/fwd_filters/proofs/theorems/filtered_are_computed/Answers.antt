use Rattle.fwd_filters.proofs.FilterFunction.{filtered_are}
use Rattle.fwd_filters.proofs.theorems.filtered_are_computed.Goals as goal

pub returns : goal.returns
returns c = filtered_are
