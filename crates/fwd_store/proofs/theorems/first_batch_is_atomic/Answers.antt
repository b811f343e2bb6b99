use Rattle.std.proofs.Common.{Some, refl}
use Rattle.fwd_outside.proofs.CrashPointLemmas.{holds_moments, holds_end}
use Rattle.fwd_outside.specs.declared.home.Home.TheVariants.{Disk}
use Rattle.fwd_outside.specs.DiskStates.{DiskTransition}
use Rattle.fwd_store.specs.Store.{begins_as}
use Rattle.fwd_store.proofs.CrashPoints.{Comes, Placed, holds_begins, placed_settled}
use Rattle.fwd_store.proofs.theorems.first_batch_is_atomic.Goals as goal

pub returns-clause-any_moment : goal.returns-clause-any_moment
returns-clause-any_moment c name tag batch outputs files entries left is way =
    holds_moments DiskTransition (Comes name tag batch outputs files is) (Placed name tag batch outputs files is) files (begins_as name tag Disk batch outputs) (holds_begins name tag batch outputs files is) entries left way

pub returns-clause-accepted : goal.returns-clause-accepted
returns-clause-accepted c name tag batch outputs files last entries short are fits is way ends =
    placed_settled name tag batch outputs last short are fits
    (holds_end DiskTransition (Comes name tag batch outputs files is) (Placed name tag batch outputs files is) files (begins_as name tag Disk batch outputs) (holds_begins name tag batch outputs files is) entries (Some tt) last way ends refl)
