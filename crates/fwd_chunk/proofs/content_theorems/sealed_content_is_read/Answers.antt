use Rattle.fwd_outside.specs.DiskStates.{initial_files}
use Rattle.fwd_outside.proofs.Invariant.{invariant_initial, invariant_reached, read_is_post_crash_state}
use Rattle.fwd_chunk.proofs.SealedContent.{sealed_stands}
use Rattle.fwd_chunk.proofs.content_theorems.sealed_content_is_read.Goals as goal

pub returns : goal.returns
returns c head meta content batch given before files holds either long_meta long =
    sealed_stands head meta content batch files long_meta long (read_is_post_crash_state (files head.name) (invariant_reached before (initial_files given) files holds (invariant_initial given) head.name)) either
