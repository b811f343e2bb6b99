-- A file stays unchanged until a call is about it.
use Rattle.std.proofs.Common.{◌≡◌, ℕ, List, [], ◌∷◌, All, sym, subst}
use Rattle.fwd_outside.specs.AtCrashPoints.{AtCrashPoints}
use Rattle.fwd_outside.specs.Disk.{DiskEntry}
use Rattle.fwd_outside.specs.File.{FileState, IsPostCrash}
use Rattle.fwd_outside.specs.DiskStates.{Files, DiskTransition}
use Rattle.fwd_outside.specs.PostCrash.{AllPostCrash, IsOn}
use Rattle.fwd_outside.proofs.KeepsBytes.{whole_post_crash}
use Rattle.fwd_outside.proofs.UnchangedFiles.{untouched}
use Rattle.fwd_chunk.specs.declared.append.ChunkHead.{ChunkHead}
use Rattle.fwd_chunk.specs.Append.{LeavesContent, LeavesOldOrNew, IsDurable, DurableIn}

moments_weaker : (P Q : Files → Type 0) (files : Files) (entries : List DiskEntry) → ((now : Files) → P now → Q now) → AtCrashPoints DiskTransition P files entries → AtCrashPoints DiskTransition Q files entries
moments_weaker P Q files [] so moments = so files moments
moments_weaker P Q files (e ∷ es) so moments =
    (so files moments.0, λ during after steps. let went = moments.1 during after steps in (so during went.0, moments_weaker P Q after es so went.1))

pub settled_stays : (head : ChunkHead) (meta content : List ℕ) (entries : List DiskEntry) (files : Files) → DurableIn head meta content files → All (λ (e : DiskEntry). IsOn e.call head.name → ⊥) entries → AtCrashPoints DiskTransition (DurableIn head meta content) files entries
settled_stays head meta content entries files settled off =
    moments_weaker (λ now. now head.name ≡ files head.name) (DurableIn head meta content) files entries (λ now same. subst (IsDurable head meta content) (sym same) settled) (untouched head.name entries files off)

pub either_stays : (name : List ℕ) (mark : ℕ) (meta old new : List ℕ) (entries : List DiskEntry) (files : Files) → AllPostCrash name (LeavesOldOrNew mark meta old new) files → All (λ (e : DiskEntry). IsOn e.call name → ⊥) entries → AtCrashPoints DiskTransition (AllPostCrash name (LeavesOldOrNew mark meta old new)) files entries
either_stays name mark meta old new entries files leaves off =
    moments_weaker (λ now. now name ≡ files name) (AllPostCrash name (LeavesOldOrNew mark meta old new)) files entries (λ now same image is. leaves image (subst (λ (s : FileState). IsPostCrash s image) same is)) (untouched name entries files off)

pub settled_leaves : (head : ChunkHead) (meta content : List ℕ) (files : Files) → DurableIn head meta content files → AllPostCrash head.name (LeavesContent head.mark meta content) files
settled_leaves head meta content files settled image is =
    subst (LeavesContent head.mark meta content) (sym (whole_post_crash settled.bytes image (subst (λ (s : FileState). IsPostCrash s image) settled.state is))) settled.parts
