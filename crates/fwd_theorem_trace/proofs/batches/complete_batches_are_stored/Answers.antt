use Rattle.fwd_theorem_trace.proofs.Acceptance.{becomes_in_life}
use Rattle.fwd_theorem_trace.proofs.batches.complete_batches_are_stored.Goals as goal

pub returns : goal.returns
returns c s ends ticks turns before left b entries a life_way way = becomes_in_life s ends ticks turns before left b entries a life_way way
