use Rattle.fwd_outside.proofs.CrashPointLemmas.{holds_moments}
use Rattle.fwd_outside.specs.DiskStates.{DiskTransition}
use Rattle.fwd_chunk.specs.Append.{stage_program, KeepsOldContent}
use Rattle.fwd_chunk.proofs.StageLemmas.{Staged, stage_keeps}
use Rattle.fwd_chunk.proofs.crash_theorems.stage_keeps_old_content.Goals as goal

pub returns : goal.returns
returns c head meta content batch full files entries left total settled way =
    holds_moments DiskTransition (KeepsOldContent head meta content files) (Staged head meta content files settled batch total full) files (stage_program head batch full) (stage_keeps head meta content files settled batch total full) entries left way
