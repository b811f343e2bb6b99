use Rattle.fwd_theorem_recorded.proofs.KeyedTraces.{keyed_renamed}
use Rattle.fwd_theorem_recorded.proofs.links.keyed_loops_keep_renamed_traces.Goals as goal

pub returns : goal.returns
returns c rename keys above below t so apart = keyed_renamed rename keys above below t so apart
