-- If a file has one post-crash state with the head's lengths, the content is where reads look for it.
use Rattle.std.proofs.Common.{◌≡◌, ℕ, ◌+◌, ◌-◌, min, List, length, length-take, length-drop, drop, sym, ◌∙◌, ap, arith}
use Rattle.fwd_outside.specs.File.{FileState}
use Rattle.fwd_outside.specs.DiskStates.{Files}
use Rattle.fwd_event.specs.declared.event.Event.{Event}
use Rattle.fwd_event.specs.Event.{AreEvents}
use Rattle.fwd_chunk.specs.declared.append.ChunkHead.{ChunkHead}
use Rattle.fwd_chunk.specs.Layout.{part}
use Rattle.fwd_chunk.specs.Append.{DurableIn}
use Rattle.fwd_chunk.proofs.StageLemmas.{by_head}
use Rattle.fwd_chunk.specs.declared.kept.Kept.TheVariants.{InFile}
use Rattle.fwd_chunk.specs.Content.{IsContentIn, IsValidContent}

pub settled_stands : (head : ChunkHead) (meta content : List ℕ) (files : Files) → DurableIn head meta content files → IsContentIn (InFile head) content files
settled_stands head meta content files settled =
    ap (λ (s : FileState). part s.bytes (24 + head.meta) head.size) settled.state ∙ sym (by_head head meta content files settled).1

pub settled_is_kept : (head : ChunkHead) (meta content : List ℕ) (files : Files) (events : List Event) → DurableIn head meta content files → AreEvents events content → IsValidContent (InFile head) content
settled_is_kept head meta content files events settled are =
    let bytes = settled.bytes in
    let long : length content ≡ min head.size (length bytes - (24 + head.meta)) =
    ap length (by_head head meta content files settled).1 ∙ length-take head.size (drop (24 + head.meta) bytes) ∙ ap (λ (n : ℕ). min head.size n) (length-drop (24 + head.meta) bytes) in
    record { long = omega (arith, settled.parts.fits, settled.meta_is, settled.size); events = events; are = are }
