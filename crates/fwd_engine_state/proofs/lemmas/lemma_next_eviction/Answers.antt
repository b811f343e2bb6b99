use Rattle.std.proofs.Common.{map, ap}
use Rattle.fwd_base.specs.declared.ids.ChunkId.{ChunkId}
use Rattle.fwd_model.specs.Routes.{route}
use Rattle.fwd_engine_state.proofs.Evictions.{fits_next, new_next, lose_next}
use Rattle.fwd_engine_state.proofs.lemmas.lemma_next_eviction.Goals as goal

pub returns-clause-fits : goal.returns-clause-fits
returns-clause-fits c s state h out output limit chunk before is = ap (map (λ (lost : ChunkId). route lost.0 output.0)) (fits_next s h output limit chunk before.numbers is)

pub returns-clause-new : goal.returns-clause-new
returns-clause-new c s state h out output limit chunk before is = ap (map (λ (lost : ChunkId). route lost.0 output.0)) (new_next s h output limit chunk before.numbers is)

pub returns-clause-lose : goal.returns-clause-lose
returns-clause-lose c s state h out output limit chunk first before is = ap (map (λ (lost : ChunkId). route lost.0 output.0)) (lose_next s h output limit chunk first before.numbers is)
