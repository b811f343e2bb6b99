use Rattle.fwd_engine_state.proofs.IdleRoutes.{idle_closed}
use Rattle.fwd_engine_state.proofs.lemmas.lemma_idle_route_is_closed.Goals as goal

pub returns : goal.returns
returns c s state h out r before idle = idle_closed s h r idle before.numbers
