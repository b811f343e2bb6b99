-- A marked file is read as its parts.
use Rattle.std.proofs.Common.{◌≡◌, ◌⊎◌, inl, inr, ℕ, ◌+◌, true, false, ◌==◌, ◌||◌, nat_lt, IsTrue, List, length, Ok, refl, sym, ap, subst, ◌∙◌, arith, length-drop}
use Rattle.std.specs.Str.{is_utf8}
use Rattle.std.proofs.lemmas.Bool.{le-ltb}
use Rattle.fwd_event.specs.declared.event.Event.{Event}
use Rattle.fwd_event.specs.Event.{AreEvents}
use Rattle.fwd_chunk.specs.Layout.{meta_length, committed_length, HasParts}
use Rattle.fwd_chunk.specs.declared.chunk.Chunk.{Chunk}
use Rattle.fwd_chunk.specs.declared.metadata.Metadata.{Metadata}
use Rattle.fwd_chunk.specs.Metadata.{parse_metadata}
use Rattle.fwd_chunk.specs.Format.{mark_of, has_id, is_marked, body_of, if_long_enough, if_valid_tag, headed_by, parse_header, chunk_of, StandsFor}
use Rattle.fwd_chunk.proofs.HeaderFacts.{metadata_is}

marks : (mark : ℕ) → (mark ≡ 1) ⊎ (mark ≡ 2) → (((mark == 1) || (mark == 2)) ≡ true) × (nat_lt mark 3 ≡ true)
marks mark (inl is) = rw is (refl, refl)
marks mark (inr is) = rw is (refl, refl)

module _ (mark : ℕ) (bytes meta content : List ℕ) (metadata : Metadata) (events : List Event) (parts : HasParts mark bytes meta content) (says : parse_metadata mark meta ≡ Ok metadata) (utf8 : IsTrue (is_utf8 metadata.tag)) where
  marked : is_marked bytes ≡ true
  marked = rw parts.mark_is (marks mark parts.marked).0

  id : has_id bytes ≡ true
  id = rw (parts.id, parts.id_end, parts.mark_is) (marks mark parts.marked).1

  enough : nat_lt (length (body_of bytes)) (committed_length bytes) ≡ false
  enough = le-ltb (length (body_of bytes)) (committed_length bytes) (omega (arith, parts.fits, length-drop (24 + meta_length bytes) bytes))

  has_size : if_long_enough bytes metadata ≡ Ok metadata
  has_size = rw (marked, enough) refl

  has_tag : if_valid_tag bytes (Ok metadata) ≡ Ok metadata
  has_tag = rw utf8 has_size

  is_headed : parse_header bytes ≡ Ok metadata
  is_headed =
      ap (headed_by bytes) (metadata_is bytes parts.short (omega (arith, parts.fits)) id (omega (arith, parts.fits)))
      ∙ ap (λ (m : List ℕ). if_valid_tag bytes (parse_metadata (mark_of bytes) m)) (sym parts.meta_is)
      ∙ ap (λ (k : ℕ). if_valid_tag bytes (parse_metadata k meta)) parts.mark_is
      ∙ ap (if_valid_tag bytes) says
      ∙ has_tag

  pub stands : AreEvents events content
      → (chunk : Chunk) × StandsFor bytes (Ok chunk) × (chunk.meta ≡ meta_length bytes) × (chunk.mark ≡ mark) × (chunk.tag ≡ metadata.tag)
      × (chunk.outputs ≡ metadata.outputs) × (chunk.done ≡ metadata.done) × (chunk.content ≡ content) × (chunk.events ≡ length events)
  stands are = (
    chunk_of bytes metadata events (committed_length bytes),
    (metadata, events, committed_length bytes, is_headed, inl (marked, refl, subst (AreEvents events) parts.content_is are), refl),
    refl,
    parts.mark_is,
    refl,
    refl,
    refl,
    sym parts.content_is,
    refl,
  )
