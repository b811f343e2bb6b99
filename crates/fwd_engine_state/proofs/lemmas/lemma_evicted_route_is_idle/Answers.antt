use Rattle.fwd_engine_state.proofs.EvictedRoutes.{lose_idle}
use Rattle.fwd_engine_state.proofs.lemmas.lemma_evicted_route_is_idle.Goals as goal

pub returns : goal.returns
returns c s state h out output limit chunk first before is = lose_idle s h output limit chunk first before.numbers is
