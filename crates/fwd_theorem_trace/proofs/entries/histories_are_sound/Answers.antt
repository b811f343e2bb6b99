use Rattle.fwd_theorem_trace.proofs.Invariant.{sound_life}
use Rattle.fwd_theorem_trace.proofs.entries.histories_are_sound.Goals as goal

pub returns : goal.returns
returns c s ends ticks turns entries left way = sound_life s ends ticks turns entries left way
