-- A file that represents a content, or it and a batch, has the content where reads look for it.
use Rattle.std.proofs.Common.{◌≡◌, ◌⊎◌, inl, inr, ℕ, ◌+◌, ◌≤◌, Bool, true, false, if◌then◌else◌, List, ◌++◌, length, length-append, take, drop, Some, None, sym, ◌∙◌, ap, arith}
use Rattle.std.proofs.lemmas.List.{take_at}
use Rattle.std.proofs.lemmas.Grind.{common_steps}
use Rattle.fwd_outside.specs.File.{FileState, IsPostCrash}
use Rattle.fwd_outside.specs.File as file
use Rattle.fwd_outside.specs.DiskStates.{Files}
use Rattle.fwd_outside.specs.PostCrash.{AllPostCrash}
use Rattle.fwd_chunk.specs.declared.append.ChunkHead.{ChunkHead}
use Rattle.fwd_chunk.specs.Layout.{part, meta_length, committed_length, HasParts}
use Rattle.fwd_chunk.specs.Append.{LeavesOldOrNew}
use Rattle.fwd_chunk.proofs.FileParts.{length-part}
use Rattle.fwd_chunk.specs.declared.kept.Kept.TheVariants.{InFile}
use Rattle.fwd_chunk.specs.Content.{IsContentIn}

fewer : {X : Type 0} (n m : ℕ) (xs : List X) → n ≤ m → take n (take m xs) ≡ take n xs
fewer n m xs le = grind (arith, common_steps)

module _ (head : ChunkHead) (meta content batch : List ℕ) (files : Files) (long_meta : length meta ≡ head.meta) (long : length content ≡ head.size) where
  meta_at : (all : List ℕ) → HasParts head.mark (files head.name).bytes meta all → head.meta ≡ meta_length (files head.name).bytes
  meta_at all parts = sym long_meta ∙ ap length parts.meta_is ∙ length-part (files head.name).bytes 24 (meta_length (files head.name).bytes) (omega (arith, parts.fits))

  size_at : (all : List ℕ) → HasParts head.mark (files head.name).bytes meta all → length all ≡ committed_length (files head.name).bytes
  size_at all parts =
      ap length parts.content_is ∙ length-part (files head.name).bytes (24 + meta_length (files head.name).bytes) (committed_length (files head.name).bytes) (omega (arith, parts.fits))

  -- the first bytes of the content that the file represents
  begins : (all : List ℕ) → HasParts head.mark (files head.name).bytes meta all → head.size ≤ length all → take head.size all ≡ part (files head.name).bytes (24 + head.meta) head.size
  begins all parts le =
      ap (take head.size) parts.content_is
      ∙ fewer head.size (committed_length (files head.name).bytes) (drop (24 + meta_length (files head.name).bytes) (files head.name).bytes) (omega (arith, size_at all parts))
      ∙ ap (λ (m : ℕ). part (files head.name).bytes (24 + m) head.size) (sym (meta_at all parts))

  by_parts : HasParts head.mark (files head.name).bytes meta content ⊎ HasParts head.mark (files head.name).bytes meta (content ++ batch) → IsContentIn (InFile head) content files
  by_parts (inl parts) = sym (begins content parts (omega (arith, long))) ∙ take_all_of
    where
      take_all_of : take head.size content ≡ content
      take_all_of = grind (arith, common_steps, long)
  by_parts (inr parts) = sym (begins (content ++ batch) parts (omega (arith, long, length-append content batch))) ∙ take_at content batch head.size long

  pub sealed_stands : IsPostCrash (files head.name) (file.content (files head.name)) → AllPostCrash head.name (LeavesOldOrNew head.mark meta content (content ++ batch)) files → IsContentIn (InFile head) content files
  sealed_stands image either = by (files head.name).there (either (file.content (files head.name)) image)
    where
      by : (b : Bool) → LeavesOldOrNew head.mark meta content (content ++ batch) (if b then Some (files head.name).bytes else None) → IsContentIn (InFile head) content files
      by true leaves = by_parts leaves
      by false leaves = absurd leaves
