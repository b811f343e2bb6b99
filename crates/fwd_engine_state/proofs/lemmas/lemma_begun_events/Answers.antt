use Rattle.std.proofs.Common.{refl}
use Rattle.fwd_engine_state.proofs.RowChanges.{same_self}
use Rattle.fwd_engine_state.proofs.lemmas.lemma_begun_events.Goals as goal

pub returns-clause-events : goal.returns-clause-events
returns-clause-events c h r events = rw (same_self r) refl

pub returns-clause-tries : goal.returns-clause-tries
returns-clause-tries c h r events = rw (same_self r) refl
