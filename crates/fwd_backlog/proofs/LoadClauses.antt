-- The clauses of loading about the disk follow from its calls.
use Rattle.std.proofs.Common.{List, ℕ, Option, Some, Result, Ok, Err, IfOk}
use Rattle.fwd_outside.proofs.SinceLemmas.{since_makes, after_did}
use Rattle.fwd_outside.specs.Disk.{DiskLog}
use Rattle.fwd_outside.specs.DiskStates.{Files, DiskTransition, initial_files}
use Rattle.fwd_outside.specs.PostCrash.{DiskSince, DiskAfter}
use Rattle.fwd_outside.proofs.Invariant.{AllInvariant, invariant_initial, invariant_reached}
use Rattle.fwd_backlog.specs.declared.error.LoadErr.{LoadErr}
use Rattle.fwd_backlog.specs.declared.load.Backlog.{Backlog}
use Rattle.fwd_backlog.specs.LoadResult.{Loads}
use Rattle.fwd_backlog.specs.declared.file_read.FileRead.{FileRead}
use Rattle.fwd_backlog.specs.LoadProgram.{load_program, IsBacklog}
use Rattle.fwd_backlog.specs.Recovered.{AreRecoveredFrom, LeavesNoMore}
use Rattle.fwd_backlog.proofs.Calls.{made_of}
use Rattle.fwd_backlog.proofs.LoadInvariant.{AllKept, kept_first, With}
use Rattle.fwd_backlog.proofs.LoadedFiles.{IsLoaded, goes_loads, holds_no_more, with_found}

-- the state that the calls led to, and the disk now
abbrev pub Led : List ℕ → Files → Option (List FileRead) → Files → Type 0
Led root first r now = With first (IsLoaded root first) r now

pub no_more_since : (a b : DiskLog) (root : List ℕ) (r : Result Backlog LoadErr) → Loads a b (load_program root) IsBacklog r → DiskSince a b (λ _. Unit {0}) LeavesNoMore
no_more_since a b root r loaded given before since is_old is_new first ends good =
    let made = made_of a b (load_program root) IsBacklog r loaded in
    since_makes DiskTransition initial_files a b (load_program root) made.0 AllInvariant LeavesNoMore (Led root) made.1 (holds_no_more root) given before since is_old is_new first ends (invariant_reached before (initial_files given) first ends (invariant_initial given))

after_loading : (a b : DiskLog) (root : List ℕ) (backlog : Backlog) → Loads a b (load_program root) IsBacklog (Ok backlog) → DiskAfter a b (λ _. Unit {0}) (λ _ last. AreRecoveredFrom root last backlog.found)
after_loading a b root backlog loaded given before since is_old is_new first last ends good went_on =
    after_did DiskTransition initial_files a b (load_program root) (Some loaded.0) AllInvariant AllKept (Led root) (λ _ last. AreRecoveredFrom root last backlog.found) loaded.1
    (λ first sound. goes_loads root first first (kept_first first sound)) (λ first last led. with_found root first last loaded.0 backlog.found led loaded.2.found)
    given before since is_old is_new first last ends (invariant_reached before (initial_files given) first ends (invariant_initial given)) went_on

pub found_after : (a b : DiskLog) (root : List ℕ) (r : Result Backlog LoadErr) → Loads a b (load_program root) IsBacklog r → IfOk r (λ backlog. DiskAfter a b (λ _. Unit {0}) (λ _ last. AreRecoveredFrom root last backlog.found))
found_after a b root (Ok backlog) loaded = after_loading a b root backlog loaded
found_after a b root (Err e) loaded = tt
