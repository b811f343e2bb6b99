use Rattle.fwd_theorem_delivery.proofs.RouteCauses.{causes_in_life}
use Rattle.fwd_theorem_delivery.proofs.causes.outcomes_have_causes.Goals as goal

pub returns : goal.returns
returns c s ends ticks turns entries left way = causes_in_life s ends ticks turns entries left way
