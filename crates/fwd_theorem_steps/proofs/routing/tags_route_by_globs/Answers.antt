use Rattle.fwd_theorem_steps.proofs.RoutesByGlobs.{routes_match, matches_route}
use Rattle.fwd_theorem_steps.proofs.routing.tags_route_by_globs.Goals as goal

pub returns : goal.returns
returns c s tag output = (routes_match s tag output, matches_route s tag output)
