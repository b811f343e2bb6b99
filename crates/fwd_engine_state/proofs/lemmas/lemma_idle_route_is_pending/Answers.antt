use Rattle.fwd_engine_state.proofs.RowChanges.{same_self}
use Rattle.fwd_engine_state.proofs.PendingRoutes.{idle_pending}
use Rattle.fwd_engine_state.proofs.lemmas.lemma_idle_route_is_pending.Goals as goal

pub returns-clause-idle : goal.returns-clause-idle
returns-clause-idle c s state h out r before idle = idle_pending s h r idle before.numbers

pub returns-clause-begun : goal.returns-clause-begun
returns-clause-begun c s state h out r events before idle =
    let pending = idle_pending s h r idle before.numbers in
    (pending.0, rw (same_self r) pending.1)
