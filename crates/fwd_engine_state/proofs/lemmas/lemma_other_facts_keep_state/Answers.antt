use Rattle.fwd_engine_state.proofs.OtherFacts.{state_after_other_fact}
use Rattle.fwd_engine_state.proofs.lemmas.lemma_other_facts_keep_state.Goals as goal

pub returns : goal.returns
returns c = state_after_other_fact
