use Rattle.fwd_chunk.proofs.outputs.+read_outputs.Given as goal

abbrev pub decreases-read_outputs : goal.decreases-read_outputs
decreases-read_outputs l = l.count
