use Rattle.fwd_theorem_steps.proofs.SettledRoutes.{settled_at_end}
use Rattle.fwd_theorem_steps.proofs.resolutions.resolved_routes_are_settled.Goals as goal

pub returns : goal.returns
returns c s ends ticks turns lived entries way = settled_at_end s ends ticks turns entries lived way
