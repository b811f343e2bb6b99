-- The disk programs that create a chunk file and append to it, and what each post-crash state represents.
use Rattle.std.specs.Prelude.{◌≡◌, ◌⊎◌, ℕ, ◌+◌, ◌%◌, ◌≤◌, Bool, if◌then◌else◌, Option, Some, None, List, [], ◌∷◌, ◌++◌, length}
use Rattle.std.specs.Int.{to_be_bytes, w32}
use Rattle.fwd_base.specs.Limits.{chunk_header}
use Rattle.fwd_outside.specs.Program.{Return, and_then}
use Rattle.fwd_outside.specs.Disk.{DiskProgram, places, writes, syncs}
use Rattle.fwd_outside.specs.File.{FileState, whole}
use Rattle.fwd_outside.specs.DiskStates.{Files}
use Rattle.fwd_outside.specs.PostCrash.{AllPostCrash, OthersUnchanged, WholeOrAbsent}
use Rattle.fwd_chunk.specs.declared.append.ChunkHead.{ChunkHead}
use Rattle.fwd_chunk.specs.Layout.{part, number_at, other, meta_length, selector_of, committed_length, HasParts, new_meta, new_file}

-- the head of a new file
abbrev pub new_head : List ℕ → List ℕ → List ℕ → List (List ℕ) → ChunkHead
new_head name tag content outputs = record {
  name = name;
  meta = length (new_meta tag outputs);
  size = length content;
  selector = 0;
  mark = 2;
  outputs = outputs;
}

-- a new file is created atomically
abbrev pub create_program : List ℕ → List ℕ → List ℕ → List (List ℕ) → DiskProgram (Option ChunkHead)
create_program name tag batch outputs =
    and_then (places name (new_file tag batch outputs)) (λ _. Return (Some (new_head name tag batch outputs)))

abbrev pub sync_if_program : Bool → List ℕ → DiskProgram (Option (Unit {0}))
sync_if_program full name = if full then syncs name else Return (Some tt)

-- 255 is followed by 0
abbrev pub next_selector : ℕ → ℕ
next_selector selector = (selector + 1) % 256

-- Writes the batch after the content, then the new length into the inactive slot. The content needn't be
-- whole events: this only requires that the file isn't too long.
abbrev pub stage_program : ChunkHead → List ℕ → Bool → DiskProgram (Option (Unit {0}))
stage_program head batch full =
    and_then (writes head.name (chunk_header + head.meta + head.size) batch)
    (λ _. and_then (writes head.name (other head.selector) (to_be_bytes w32 (head.size + length batch)))
    (λ _. sync_if_program full head.name))

-- writes the next selector, which chooses the other slot
abbrev pub commit_program : ChunkHead → Bool → DiskProgram (Option (Unit {0}))
commit_program head full =
    and_then (writes head.name 7 (next_selector head.selector ∷ [])) (λ _. sync_if_program full head.name)

-- the head after a commit
abbrev pub committed_head : ChunkHead → ℕ → ChunkHead
committed_head head size = record head { size = size; selector = next_selector head.selector }

-- a post-crash state has these parts, or one of two contents
abbrev pub LeavesContent : ℕ → List ℕ → List ℕ → Option (List ℕ) → Type 0
LeavesContent mark meta content None = ⊥
LeavesContent mark meta content (Some image) = HasParts mark image meta content

abbrev pub LeavesOldOrNew : ℕ → List ℕ → List ℕ → List ℕ → Option (List ℕ) → Type 0
LeavesOldOrNew mark meta old new None = ⊥
LeavesOldOrNew mark meta old new (Some image) = HasParts mark image meta old ⊎ HasParts mark image meta new

-- The file has one post-crash state, which has the head's mark, lengths and selector.
pub record IsDurable (head : ChunkHead) (meta content : List ℕ) (s : FileState) : Type 0 where
  pub bytes : List ℕ
  pub state : s ≡ whole bytes
  pub parts : HasParts head.mark bytes meta content
  pub meta_is : head.meta ≡ meta_length bytes
  pub size : head.size ≡ committed_length bytes
  pub selector : head.selector ≡ selector_of bytes

-- The batch is after the content, and the new length is in the inactive slot.
pub record IsStaged (head : ChunkHead) (meta content batch : List ℕ) (s : FileState) : Type 0 where
  pub settled : IsDurable head meta content s
  pub slot : number_at settled.bytes (other head.selector) ≡ head.size + length batch
  pub behind : part settled.bytes (chunk_header + head.meta) (head.size + length batch) ≡ content ++ batch
  pub fits : chunk_header + head.meta + head.size + length batch ≤ length settled.bytes

abbrev pub DurableIn : ChunkHead → List ℕ → List ℕ → Files → Type 0
DurableIn head meta content files = IsDurable head meta content (files head.name)

abbrev pub StagedIn : ChunkHead → List ℕ → List ℕ → List ℕ → Files → Type 0
StagedIn head meta content batch files = IsStaged head meta content batch (files head.name)

-- Each post-crash state has the complete file or none; or has this content; or has one of two contents. No
-- other name changed.
abbrev pub IsCreatedAtomically : List ℕ → List ℕ → Files → Files → Type 0
IsCreatedAtomically name bytes first now =
    AllPostCrash name (WholeOrAbsent bytes) now × OthersUnchanged name first now

abbrev pub KeepsOldContent : ChunkHead → List ℕ → List ℕ → Files → Files → Type 0
KeepsOldContent head meta content first now =
    AllPostCrash head.name (LeavesContent head.mark meta content) now × OthersUnchanged head.name first now

abbrev pub KeepsOldOrNew : ChunkHead → List ℕ → List ℕ → List ℕ → Files → Files → Type 0
KeepsOldOrNew head meta old new first now =
    AllPostCrash head.name (LeavesOldOrNew head.mark meta old new) now × OthersUnchanged head.name first now
