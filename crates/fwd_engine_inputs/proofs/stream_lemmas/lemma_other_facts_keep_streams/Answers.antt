use Rattle.fwd_engine_inputs.proofs.StreamSteps.{streams_after_other_fact}
use Rattle.fwd_engine_inputs.proofs.stream_lemmas.lemma_other_facts_keep_streams.Goals as goal

pub returns : goal.returns
returns c = streams_after_other_fact
