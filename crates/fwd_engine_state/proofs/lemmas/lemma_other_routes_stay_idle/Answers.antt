use Rattle.fwd_engine_state.proofs.EvictionsByOutput.{idle_still}
use Rattle.fwd_engine_state.proofs.lemmas.lemma_other_routes_stay_idle.Goals as goal

pub returns : goal.returns
returns c = idle_still
