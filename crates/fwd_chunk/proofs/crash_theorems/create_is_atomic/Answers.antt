use Rattle.fwd_outside.proofs.CrashPointLemmas.{holds_moments}
use Rattle.fwd_outside.specs.DiskStates.{DiskTransition}
use Rattle.fwd_chunk.specs.Layout.{new_file}
use Rattle.fwd_chunk.specs.Append.{create_program, IsCreatedAtomically}
use Rattle.fwd_chunk.proofs.Creation.{Created, create_keeps}
use Rattle.fwd_chunk.proofs.crash_theorems.create_is_atomic.Goals as goal

pub returns : goal.returns
returns c name tag batch outputs files entries left is way =
    holds_moments DiskTransition (IsCreatedAtomically name (new_file tag batch outputs) files) (Created name tag batch outputs files is) files (create_program name tag batch outputs) (create_keeps name tag batch outputs files is) entries left way
