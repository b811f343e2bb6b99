use Rattle.std.proofs.Common.{◌++◌}
use Rattle.fwd_outside.proofs.CrashPointLemmas.{holds_moments}
use Rattle.fwd_outside.specs.DiskStates.{DiskTransition}
use Rattle.fwd_chunk.specs.Append.{commit_program, KeepsOldOrNew}
use Rattle.fwd_chunk.proofs.CommitLemmas.{Committed, commit_keeps}
use Rattle.fwd_chunk.proofs.crash_theorems.commit_keeps_old_or_new.Goals as goal

pub returns : goal.returns
returns c head meta content batch full files entries left staged way =
    holds_moments DiskTransition (KeepsOldOrNew head meta content (content ++ batch) files) (Committed head meta content batch files staged full) files (commit_program head full) (commit_keeps head meta content batch files staged full) entries left way
