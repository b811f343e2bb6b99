use Rattle.fwd_engine_inputs.proofs.StreamSteps.{streams_after_unread_bytes}
use Rattle.fwd_engine_inputs.proofs.stream_lemmas.lemma_unread_bytes_keep_streams.Goals as goal

pub returns : goal.returns
returns c = streams_after_unread_bytes
