use Rattle.std.proofs.Common.{Some, refl, true}
use Rattle.fwd_outside.proofs.CrashPointLemmas.{holds_moments, holds_end}
use Rattle.fwd_outside.specs.DiskStates.{DiskTransition}
use Rattle.fwd_chunk.specs.declared.kept.Kept.TheVariants.{InFile}
use Rattle.fwd_chunk.specs.Kept.{appends}
use Rattle.fwd_store.proofs.CrashPoints.{Either, Done, holds_appends}
use Rattle.fwd_store.proofs.theorems.append_keeps_old_or_new.Goals as goal

pub returns-clause-any_moment : goal.returns-clause-any_moment
returns-clause-any_moment c head meta content batch files entries left total settled way =
    holds_moments DiskTransition (Either head meta content batch files total settled) (Done head meta content batch files total settled) files (appends (InFile head) batch true)
    (holds_appends head meta content batch files total settled) entries left way

pub returns-clause-accepted : goal.returns-clause-accepted
returns-clause-accepted c head meta content batch files last entries total settled way ends =
    holds_end DiskTransition (Either head meta content batch files total settled) (Done head meta content batch files total settled) files (appends (InFile head) batch true)
    (holds_appends head meta content batch files total settled) entries (Some tt) last way ends refl
