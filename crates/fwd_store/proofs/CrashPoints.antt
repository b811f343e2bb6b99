-- What each point of an `accept` keeps.
use Rattle.std.proofs.Common.{◌≡◌, inl, ℕ, ◌+◌, ◌≤◌, true, refl, IsSome, Option, Some, None, List, ◌++◌, length, sym, ◌∙◌, subst}
use Rattle.fwd_base.specs.Limits.{longest_file, longest_tag}
use Rattle.fwd_outside.specs.Program.{Return, Ask}
use Rattle.fwd_outside.specs.AtCrashPoints.{HoldsThroughout}
use Rattle.fwd_outside.proofs.CrashPointLemmas.{holds_weaker}
use Rattle.fwd_outside.proofs.AndThen.{holds_and_then}
use Rattle.fwd_outside.specs.Disk.{DiskProgram}
use Rattle.fwd_outside.specs.File.{FileState, whole, absent}
use Rattle.fwd_outside.specs.DiskStates.{Files, DiskTransition}
use Rattle.fwd_outside.specs.PostCrash.{OthersUnchanged}
use Rattle.fwd_chunk.specs.declared.append.ChunkHead.{ChunkHead}
use Rattle.fwd_chunk.specs.Layout.{AreOutputs, new_file, new_meta}
use Rattle.fwd_chunk.specs.Append.{LeavesContent, LeavesOldOrNew, IsDurable, DurableIn, StagedIn, KeepsOldContent, KeepsOldOrNew, IsCreatedAtomically, stage_program, commit_program, create_program, new_head, committed_head}
use Rattle.fwd_chunk.proofs.StageLemmas.{Staged, stage_keeps, good_leaves}
use Rattle.fwd_chunk.proofs.CommitLemmas.{Committed, commit_keeps}
use Rattle.fwd_chunk.proofs.Creation.{Created, create_keeps, new_settled}
use Rattle.fwd_chunk.specs.declared.kept.Kept.TheVariants.{InFile}
use Rattle.fwd_outside.specs.declared.home.Home.TheVariants.{Disk}
use Rattle.fwd_chunk.specs.Kept.{appends}
use Rattle.fwd_store.specs.Store.{begins_as}

old_or_new : (mark : ℕ) (meta old new : List ℕ) (image : Option (List ℕ)) → LeavesContent mark meta old image → LeavesOldOrNew mark meta old new image
old_or_new mark meta old new None leaves = leaves
old_or_new mark meta old new (Some image) leaves = inl leaves

module _ (head : ChunkHead) (meta content batch : List ℕ) (files : Files) (total : 24 + head.meta + head.size + length batch ≤ longest_file) (settled : DurableIn head meta content files) where
  abbrev pub Either : Files → Type 0
  Either now = KeepsOldOrNew head meta content (content ++ batch) files now

  abbrev pub Done : Option (Unit {0}) → Files → Type 0
  Done answer last = IsSome answer → DurableIn (committed_head head (head.size + length batch)) meta (content ++ batch) last

  record Half (answer : Option (Unit {0})) (mid : Files) : Type 0 where
    either : Either mid
    staged : IsSome answer → StagedIn head meta content batch mid

  first_half : HoldsThroughout DiskTransition Either Half files (stage_program head batch true)
  first_half =
      holds_weaker DiskTransition (KeepsOldContent head meta content files) Either (Staged head meta content files settled batch total true) Half files (stage_program head batch true)
      (λ now l. (λ image is. old_or_new head.mark meta content (content ++ batch) image (l.0 image is), l.1))
      (λ answer mid q. record {
        either = (λ image is. old_or_new head.mark meta content (content ++ batch) image (good_leaves head meta content files settled (mid head.name) image q.local.here is), q.local.same);
        staged = λ went. q.done went refl;
      })
      (stage_keeps head meta content files settled batch total true)

  second_half : (mid : Files) → OthersUnchanged head.name files mid → StagedIn head meta content batch mid → HoldsThroughout DiskTransition Either Done mid (commit_program head true)
  second_half mid same staged =
      holds_weaker DiskTransition (KeepsOldOrNew head meta content (content ++ batch) mid) Either (Committed head meta content batch mid staged true) Done mid (commit_program head true)
      (λ now l. (l.0, λ n ne. l.1 n ne ∙ same n ne))
      (λ answer last q went. q.done went refl)
      (commit_keeps head meta content batch mid staged true)

  pub holds_appends : HoldsThroughout DiskTransition Either Done files (appends (InFile head) batch true)
  holds_appends =
      holds_and_then DiskTransition Either Half Done files (stage_program head batch true) (λ _. commit_program head true) first_half
      (λ x mid half. second_half mid half.either.1 (half.staged refl))
      (λ mid half. (half.either, λ none. absurd (cc none)))

-- what holds at each point holds at the end too
holds_at_end : {R : Type 0} (P : Files → Type 0) (Q : R → Files → Type 0) (s : Files) (p : DiskProgram R) → HoldsThroughout DiskTransition P Q s p → HoldsThroughout DiskTransition P (λ x t. P t × Q x t) s p
holds_at_end P Q s (Return x) holds = (holds.0, (holds.0, holds.1))
holds_at_end P Q s (Ask call go) holds =
    (holds.0, λ answer during after steps. let went = holds.1 answer during after steps in (went.0, holds_at_end P Q after (go answer) went.1))

module _ (name tag batch : List ℕ) (outputs : List (List ℕ)) (files : Files) (is : files name ≡ absent) where
  abbrev pub Comes : Files → Type 0
  Comes now = IsCreatedAtomically name (new_file tag batch outputs) files now

  abbrev pub Placed : Option (Unit {0}) → Files → Type 0
  Placed answer last = IsSome answer → last name ≡ whole (new_file tag batch outputs)

  pub holds_begins : HoldsThroughout DiskTransition Comes Placed files (begins_as name tag Disk batch outputs)
  holds_begins =
      holds_and_then DiskTransition Comes (λ answer mid. Comes mid × Created name tag batch outputs files is answer mid) Placed files (create_program name tag batch outputs) (λ _. Return (Some tt))
      (holds_at_end Comes (Created name tag batch outputs files is) files (create_program name tag batch outputs) (create_keeps name tag batch outputs files is))
      (λ x mid m. (m.0, λ went. m.1.whole_at_end refl))
      (λ mid m. (m.0, λ none. absurd (cc none)))

pub placed_settled : (name tag batch : List ℕ) (outputs : List (List ℕ)) (last : Files) → length tag ≤ longest_tag → AreOutputs outputs → 24 + length (new_meta tag outputs) + length batch ≤ longest_file → last name ≡ whole (new_file tag batch outputs) → DurableIn (new_head name tag batch outputs) (new_meta tag outputs) batch last
placed_settled name tag batch outputs last short are fits is =
    subst (λ (s : FileState). IsDurable (new_head name tag batch outputs) (new_meta tag outputs) batch s) (sym is) (new_settled name tag batch outputs short are fits)
