use Rattle.std.proofs.Common.{arith}
use Rattle.fwd_model.specs.Chunks.{next}
use Rattle.fwd_engine_state.proofs.ChunkOrder.{next_least}
use Rattle.fwd_engine_state.proofs.lemmas.lemma_offered_chunk_is_new.Goals as goal

pub returns : goal.returns
returns c s state h out b before = record {
  first = next_least h;
  behind = before.numbers;
  given = omega arith;
  fresh = before.fresh (next h) (omega arith);
}
