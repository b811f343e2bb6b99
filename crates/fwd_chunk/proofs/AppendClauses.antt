-- The clauses of `stage` and `commit` about crashes follow from their calls alone.
use Rattle.std.proofs.Common.{◌≡◌, ℕ, ◌+◌, ◌≤◌, Bool, Some, IsTrue, IsSome, refl, Result, Ok, Err, OnOk, List, ◌++◌, length, sym, ◌∙◌, ap, subst}
use Rattle.fwd_base.specs.Limits.{longest_file}
use Rattle.fwd_outside.specs.Log.{RunsFallible}
use Rattle.fwd_outside.proofs.CrashPointLemmas.{holds_weaker}
use Rattle.fwd_outside.proofs.SinceLemmas.{since_attempts, after_did}
use Rattle.fwd_outside.specs.declared.errors.DiskErr.{DiskErr}
use Rattle.fwd_outside.specs.Disk.{DiskLog, disk_outcome}
use Rattle.fwd_outside.specs.DiskStates.{Files, DiskTransition, initial_files}
use Rattle.fwd_outside.specs.PostCrash.{DiskSince, DiskAfter}
use Rattle.fwd_chunk.specs.declared.append.ChunkHead.{ChunkHead}
use Rattle.fwd_chunk.specs.Append.{DurableIn, StagedIn, KeepsOldContent, KeepsOldOrNew, IsDurable, stage_program, commit_program, committed_head}
use Rattle.fwd_chunk.proofs.StageLemmas.{Staged, stage_keeps}
use Rattle.fwd_chunk.proofs.CommitLemmas.{Committed, commit_keeps}

module _ (a b : DiskLog) (r : Result (Unit {0}) DiskErr) where
  pub stage_since : (head : ChunkHead) (meta content batch : List ℕ) (full : Bool) → 24 + head.meta + head.size + length batch ≤ longest_file
      → RunsFallible a b (stage_program head batch full) (disk_outcome r) → DiskSince a b (DurableIn head meta content) (KeepsOldContent head meta content)
  stage_since head meta content batch full total calls =
      since_attempts DiskTransition initial_files a b (stage_program head batch full) (disk_outcome r) (DurableIn head meta content) (KeepsOldContent head meta content) (λ _ _ _. Unit {0}) calls
      (λ files settled. holds_weaker DiskTransition (KeepsOldContent head meta content files) (KeepsOldContent head meta content files) (Staged head meta content files settled batch total full) (λ _ _. Unit {0}) files (stage_program head batch full) (λ _ p. p) (λ _ _ _. tt)
      (stage_keeps head meta content files settled batch total full))

  pub commit_since : (head : ChunkHead) (meta content batch : List ℕ) (full : Bool) → RunsFallible a b (commit_program head full) (disk_outcome r) → DiskSince a b (StagedIn head meta content batch) (KeepsOldOrNew head meta content (content ++ batch))
  commit_since head meta content batch full calls =
      since_attempts DiskTransition initial_files a b (commit_program head full) (disk_outcome r) (StagedIn head meta content batch) (KeepsOldOrNew head meta content (content ++ batch)) (λ _ _ _. Unit {0}) calls
      (λ files staged. holds_weaker DiskTransition (KeepsOldOrNew head meta content (content ++ batch) files) (KeepsOldOrNew head meta content (content ++ batch) files) (Committed head meta content batch files staged full) (λ _ _. Unit {0}) files (commit_program head full) (λ _ p. p) (λ _ _ _. tt)
      (commit_keeps head meta content batch files staged full))

pub stage_after : (a b : DiskLog) (r : Result (Unit {0}) DiskErr) (head : ChunkHead) (batch : List ℕ) (full : Bool) → 24 + head.meta + head.size + length batch ≤ longest_file → RunsFallible a b (stage_program head batch full) (disk_outcome r)
    → OnOk r (IsTrue full → (meta content : List ℕ) → DiskAfter a b (DurableIn head meta content) (λ _ last. StagedIn head meta content batch last))
stage_after a b (Err e) head batch full total calls = tt
stage_after a b (Ok x) head batch full total calls = λ is meta content.
    after_did DiskTransition initial_files a b (stage_program head batch full) (Some x) (DurableIn head meta content) (λ first. KeepsOldContent head meta content first) (λ _ answer last. IsSome answer → StagedIn head meta content batch last) (λ _ last. StagedIn head meta content batch last) calls
    (λ files settled. holds_weaker DiskTransition (KeepsOldContent head meta content files) (KeepsOldContent head meta content files) (Staged head meta content files settled batch total full) (λ answer last. IsSome answer → StagedIn head meta content batch last) files (stage_program head batch full) (λ _ p. p)
    (λ answer last q went. q.done went is) (stage_keeps head meta content files settled batch total full))
    (λ first last q. q refl)

pub commit_after : (a b : DiskLog) (r : Result (Unit {0}) DiskErr) (head : ChunkHead) (size : ℕ) (full : Bool) (new : ChunkHead) → OnOk r (new ≡ committed_head head size) → RunsFallible a b (commit_program head full) (disk_outcome r)
    → OnOk r (IsTrue full → (meta content batch : List ℕ) → size ≡ head.size + length batch → DiskAfter a b (StagedIn head meta content batch) (λ _ last. DurableIn new meta (content ++ batch) last))
commit_after a b (Err e) head size full new is_new calls = tt
commit_after a b (Ok x) head size full new is_new calls = λ is meta content batch sized.
    let same : committed_head head (head.size + length batch) ≡ new = ap (committed_head head) (sym sized) ∙ sym is_new in
    after_did DiskTransition initial_files a b (commit_program head full) (Some x) (StagedIn head meta content batch) (λ first. KeepsOldOrNew head meta content (content ++ batch) first) (λ _ answer last. IsSome answer → DurableIn new meta (content ++ batch) last) (λ _ last. DurableIn new meta (content ++ batch) last) calls
    (λ files staged. holds_weaker DiskTransition (KeepsOldOrNew head meta content (content ++ batch) files) (KeepsOldOrNew head meta content (content ++ batch) files) (Committed head meta content batch files staged full) (λ answer last. IsSome answer → DurableIn new meta (content ++ batch) last) files (commit_program head full) (λ _ p. p)
    (λ answer last q went. settled_to (committed_head head (head.size + length batch)) new last same (ap (λ (k : ChunkHead). k.name) is_new) meta (content ++ batch) (q.done went is)) (commit_keeps head meta content batch files staged full))
    (λ first last q. q refl)
  where
    settled_to : (k k2 : ChunkHead) (last : Files) → k ≡ k2 → k2.name ≡ head.name → (m c : List ℕ) → IsDurable k m c (last head.name) → DurableIn k2 m c last
    settled_to k k2 last e named m c settled = subst (λ (n : List ℕ). IsDurable k2 m c (last n)) (sym named) (subst (λ (x : ChunkHead). IsDurable x m c (last head.name)) e settled)
