-- Which bytes have the metadata of a chunk head.
use Rattle.std.proofs.Common.{◌≡◌, ℕ, List, length, Option, Some, None, ◌∙◌, ap, arith}
use Rattle.fwd_chunk.specs.declared.append.ChunkHead.{ChunkHead}
use Rattle.fwd_chunk.specs.Layout.{NamedOutput, meta_length}
use Rattle.fwd_chunk.specs.Outcome.{HasOutputs, ImageNamesOutputs}
use Rattle.fwd_chunk.proofs.FileParts.{length-part}
use Rattle.fwd_theorem_crash.proofs.OrderInvariant.{FitsHead, NamesAll}

-- those of a file that names the head's outputs
pub fits_head : (head : ChunkHead) (tag : List ℕ) (outputs : List NamedOutput) (content bytes : List ℕ) → HasOutputs head tag outputs content bytes → FitsHead head bytes
fits_head head tag outputs content bytes named = record {
  meta = named.long ∙ ap (λ (l : List ℕ). length l) named.parts.meta_is ∙ length-part bytes 24 (meta_length bytes) (omega (arith, named.parts.fits));
  named = λ two. (tag, outputs, content, named);
}

-- a file of mark 2 names the head's outputs
pub named_of : (head : ChunkHead) (image : Option (List ℕ)) → NamesAll head image → head.mark ≡ 2 → ImageNamesOutputs head image
named_of head None none two = none
named_of head (Some bytes) is two = is.named two
