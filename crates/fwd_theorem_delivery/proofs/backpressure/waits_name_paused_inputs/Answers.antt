use Rattle.fwd_theorem_delivery.proofs.PausedInputs.{held_life, masked_life}
use Rattle.fwd_theorem_delivery.proofs.backpressure.waits_name_paused_inputs.Goals as goal

pub returns-clause-inputs : goal.returns-clause-inputs
returns-clause-inputs c s ends ticks turns entries left input way = held_life s ends ticks turns entries left input way

pub returns-clause-waits : goal.returns-clause-waits
returns-clause-waits c s ends ticks turns before after left until mask brought input way = masked_life s ends ticks turns before after left until mask brought input way
