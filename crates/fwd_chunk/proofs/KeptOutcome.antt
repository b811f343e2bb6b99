-- The clauses of recording an outcome about crashes follow from its calls alone.
use Rattle.std.proofs.Common.{◌≡◌, ℕ, Bool, true, false, IsTrue, Some, Result, Ok, Err, IfOk, List, refl}
use Rattle.fwd_outside.specs.Program.{Return}
use Rattle.fwd_outside.specs.Log.{RunsFallible}
use Rattle.fwd_outside.proofs.SinceLemmas.{since_attempts, after_did}
use Rattle.fwd_outside.specs.declared.errors.DiskErr.{DiskErr}
use Rattle.fwd_outside.specs.Disk.{DiskLog, disk_outcome}
use Rattle.fwd_outside.specs.DiskStates.{DiskTransition, initial_files}
use Rattle.fwd_outside.specs.PostCrash.{DiskSince, DiskAfter}
use Rattle.fwd_chunk.proofs.OutcomeClauses.{settle_since, settle_after}
use Rattle.fwd_chunk.specs.declared.kept.Kept.{Kept}
use Rattle.fwd_chunk.specs.declared.kept.Kept.TheVariants.{InFile, Adopted, InMemory}
use Rattle.fwd_chunk.specs.Kept.{settle_kept_program, ItsNamesIn, KeepsItsOutcomes, HasRecorded}

pub settles_since : (a b : DiskLog) (kept : Kept) (r : Result Bool DiskErr) (output : List ℕ) (full : Bool) → RunsFallible a b (settle_kept_program kept output full) (disk_outcome r) → DiskSince a b (ItsNamesIn kept) (KeepsItsOutcomes kept output)
settles_since a b (InFile head) r output full calls = settle_since a b r head output full calls
settles_since a b (Adopted head) r output full calls = settle_since a b r head output full calls
settles_since a b (InMemory content) r output full calls =
    since_attempts DiskTransition initial_files a b (Return (Some false)) (disk_outcome r) (λ _. Unit {0}) (λ first now. now ≡ first) (λ _ _ _. Unit {0}) calls (λ first _. (refl, tt))

none_recorded : (a b : DiskLog) (r : Result Bool DiskErr) (content output : List ℕ) → RunsFallible a b (Return (Some false)) (disk_outcome r) → IfOk r (λ done. IsTrue done → DiskAfter a b (λ _. Unit {0}) (HasRecorded (InMemory content) output))
none_recorded a b (Err e) content output calls = tt
none_recorded a b (Ok done) content output calls = λ is_done.
    after_did DiskTransition initial_files a b (Return (Some false)) (Some done) (λ _. Unit {0}) (λ _ _. Unit {0}) (λ _ answer _. answer ≡ Some false) (HasRecorded (InMemory content) output) calls (λ first _. (tt, refl))
    (λ first last q. let e : done ≡ false = cc q in let no_ : true ≡ false = cc (is_done, e) in absurd (cc no_))

pub settles_after : (a b : DiskLog) (kept : Kept) (r : Result Bool DiskErr) (output : List ℕ) (full : Bool) → RunsFallible a b (settle_kept_program kept output full) (disk_outcome r)
    → IfOk r (λ done. IsTrue done → IsTrue full → DiskAfter a b (ItsNamesIn kept) (HasRecorded kept output))
settles_after a b (InFile head) r output full calls = settle_after a b r head output full calls
settles_after a b (Adopted head) r output full calls = settle_after a b r head output full calls
settles_after a b (InMemory content) r output full calls = with_full r (none_recorded a b r content output calls)
  where
    with_full : (r : Result Bool DiskErr) → IfOk r (λ done. IsTrue done → DiskAfter a b (λ _. Unit {0}) (HasRecorded (InMemory content) output))
        → IfOk r (λ done. IsTrue done → IsTrue full → DiskAfter a b (ItsNamesIn (InMemory content)) (HasRecorded (InMemory content) output))
    with_full (Err e) none = tt
    with_full (Ok done) none = λ is_done is_full. none is_done
