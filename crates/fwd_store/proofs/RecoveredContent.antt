-- The place of a recovered chunk's content in its file, and the names that its metadata hold.
use Rattle.std.proofs.Common.{◌≡◌, inl, inr, ℕ, ◌+◌, ◌^◌, ◌<◌, ◌≤◌, min, nat_lt, not, ◌&&◌, Bool, true, false, if◌then◌else◌, List, ◌∷◌, length, length-take, length-append, take, Option, Some, None, Result, Ok, Err, refl, sym, ◌∙◌, ap, subst, arith}
use Rattle.std.specs.Prelude.{flat_map}
use Rattle.std.specs.Str.{is_utf8}
use Rattle.std.proofs.lemmas.List.{take_min}
use Rattle.fwd_base.specs.Limits.{longest_file}
use Rattle.fwd_outside.specs.File.{FileState, content}
use Rattle.fwd_outside.specs.DiskStates.{Files}
use Rattle.fwd_event.specs.declared.event.Event.{Event}
use Rattle.fwd_event.specs.Event.{AreEvents}
use Rattle.fwd_chunk.specs.Layout.{part, meta_length, committed_length, NamedOutput, named_output_bytes, named_meta_bytes}
use Rattle.fwd_chunk.specs.Outcome.{named_length}
use Rattle.fwd_chunk.proofs.FileParts.{length-part}
use Rattle.fwd_chunk.proofs.OutcomeByte.{length-outputs_bytes}
use Rattle.fwd_chunk.specs.declared.chunk.Chunk.{Chunk}
use Rattle.fwd_chunk.specs.declared.chunk.Brief.{Brief}
use Rattle.fwd_chunk.specs.declared.chunk.Found.{Found}
use Rattle.fwd_chunk.specs.declared.chunk.Seen.{Seen}
use Rattle.fwd_chunk.specs.declared.chunk.Seen.TheVariants.{Whole}
use Rattle.fwd_chunk.specs.declared.metadata.Metadata.{Metadata}
use Rattle.fwd_chunk.specs.declared.refusal.NotAChunk.{NotAChunk}
use Rattle.fwd_chunk.specs.declared.refusal.NotAChunk.TheVariants.{TooLong, TooShort, BadId, BadLength, NotUtf8Tag}
use Rattle.fwd_chunk.specs.Metadata.{MetadataMeaning, names_of, parse_named, tag_of, as_metadata, said_named, said_by, parse_metadata}
use Rattle.fwd_chunk.specs.Format.{mark_of, is_marked, has_id, metadata_of, if_long_enough, if_valid_tag, headed_by, parse_header, body_of, HasContent, StandsFor}
use Rattle.fwd_chunk.specs.Check.{IsCheckResult, brief_of}
use Rattle.fwd_chunk.proofs.HeaderFacts.{read_fits, whole_metadata}
use Rattle.fwd_chunk.proofs.NamedMetadata.{named_were}
use Rattle.fwd_chunk.specs.declared.kept.Kept.TheVariants.{Adopted}
use Rattle.fwd_chunk.specs.Name.{found_name}
use Rattle.fwd_chunk.specs.Content.{IsContentIn, IsValidContent}
use Rattle.fwd_store.specs.Store.{IsWhole, head_of}

events_of : (bytes : List ℕ) (events : List Event) (n : ℕ) → HasContent bytes events n → AreEvents events (take n (body_of bytes))
events_of bytes events n (inl marked) = marked.2
events_of bytes events n (inr plain) = plain.1.are

read_bytes : (s : FileState) (bytes : List ℕ) → content s ≡ Some bytes → s.bytes ≡ bytes
read_bytes s bytes is = by s.there is
  where
    by : (b : Bool) → (if b then Some s.bytes else None) ≡ Some bytes → s.bytes ≡ bytes
    by true is = cc is
    by false is = absurd (cc is)

module _ (found : Found) (bytes : List ℕ) (chunk : Chunk) (stands : StandsFor bytes (Ok chunk)) where
  abbrev n : ℕ
  n = stands.2

  abbrev body : List ℕ
  body = body_of bytes

  meta_is : chunk.meta ≡ meta_length bytes
  meta_is = ap (λ (c : Chunk). c.meta) stands.5

  content_is : chunk.content ≡ take n body
  content_is = ap (λ (c : Chunk). c.content) stands.5

  pub found_stands : (root : List ℕ) (files : Files) → content (files (found_name root found.stream found.name)) ≡ Some bytes
      → IsContentIn (Adopted (head_of (found_name root found.stream found.name) (brief_of chunk))) chunk.content files
  found_stands root files is =
      let state = files (found_name root found.stream found.name) in
      let size : length chunk.content ≡ min n (length body) = ap length content_is ∙ length-take n body in
      ap (λ (b : List ℕ). part b (24 + chunk.meta) (length chunk.content)) (read_bytes state bytes is)
      ∙ ap (λ (m : ℕ). part bytes (24 + m) (length chunk.content)) meta_is
      ∙ ap (λ (m : ℕ). take m body) size ∙ take_min n body ∙ sym content_is

  pub found_is_kept : (name : List ℕ) → IsValidContent (Adopted (head_of name (brief_of chunk))) chunk.content
  found_is_kept name = record { long = refl; events = stands.1; are = subst (λ (c : List ℕ). AreEvents stands.1 c) (sym content_is) (events_of bytes stands.1 n stands.4) }

  pub found_offsets : 24 + chunk.meta + length chunk.content < 2 ^ 64
  found_offsets = let fits = read_fits bytes chunk stands in omega arith

-- the metadata of a file of mark 2 hold the outputs that they name
length-named : (tag : List ℕ) (outputs : List NamedOutput) → 7 + named_length (names_of outputs) ≤ length (named_meta_bytes tag outputs)
length-named tag outputs = omega (arith, length-outputs_bytes outputs, length-append tag (length outputs ∷ flat_map named_output_bytes outputs))

metadata_part : (long short no_id cut : Bool) (p meta : List ℕ) → (if long then Err TooLong else if short then Err TooShort else if no_id then Err BadId else if cut then Err TooShort else Ok p) ≡ Ok meta → meta ≡ p
metadata_part true short no_id cut p meta is = absurd (cc is)
metadata_part false true no_id cut p meta is = absurd (cc is)
metadata_part false false true cut p meta is = absurd (cc is)
metadata_part false false false true p meta is = absurd (cc is)
metadata_part false false false false p meta is = sym (cc is)

module _ (bytes : List ℕ) (m : Metadata) where
  was_sized : (b : Bool) (x : Metadata) → (if b then Err BadLength else Ok x) ≡ Ok m → x ≡ m
  was_sized true x is = absurd (cc is)
  was_sized false x is = cc is

  was_tagged : (r : Result Metadata NotAChunk) → if_valid_tag bytes r ≡ Ok m → r ≡ Ok m
  was_tagged (Err e) is = absurd (cc is)
  was_tagged (Ok x) is = ap (λ (y : Metadata). Ok y) (by (is_utf8 x.tag) is)
    where
      by : (b : Bool) → (if b then if_long_enough bytes x else Err NotUtf8Tag) ≡ Ok m → x ≡ m
      by true is = was_sized (is_marked bytes && nat_lt (length (body_of bytes)) (committed_length bytes)) x is
      by false is = absurd (cc is)

  was_named : (meta : List ℕ) (found : Option MetadataMeaning) → parse_named meta ≡ found → said_named found ≡ Ok m → 7 + named_length m.outputs ≤ length meta
  was_named meta None is said_is = absurd (cc said_is)
  was_named meta (Some x) is said_is =
      let same : as_metadata x ≡ m = cc said_is in
      let were = named_were meta x is in
      omega (arith, ap (λ (y : Metadata). named_length y.outputs) same, length-named x.tag x.outputs, ap (λ (l : List ℕ). length l) were.0)

  was_said : (meta : List ℕ) (tag : Option (List ℕ)) → said_by 2 meta tag ≡ Ok m → 7 + named_length m.outputs ≤ length meta
  was_said meta None is = absurd (cc is)
  was_said meta (Some tag) is = was_named meta (parse_named meta) refl is

  holds_names : parse_header bytes ≡ Ok m → mark_of bytes ≡ 2 → 7 + named_length m.outputs ≤ meta_length bytes
  holds_names is marked = by (metadata_of bytes) refl is
    where
      by : (r : Result (List ℕ) NotAChunk) → metadata_of bytes ≡ r → headed_by bytes r ≡ Ok m → 7 + named_length m.outputs ≤ meta_length bytes
      by (Err e) found is = absurd (cc is)
      by (Ok meta) found is =
          let said_is : parse_metadata (mark_of bytes) meta ≡ Ok m = was_tagged (parse_metadata (mark_of bytes) meta) is in
          let enough = was_said meta (tag_of meta) (ap (λ (n : ℕ). parse_metadata n meta) (sym marked) ∙ said_is) in
          let fits = whole_metadata bytes meta found in
          let part_is = metadata_part (nat_lt longest_file (length bytes)) (nat_lt (length bytes) 24) (not (has_id bytes)) (nat_lt (length bytes) (24 + meta_length bytes)) (part bytes 24 (meta_length bytes)) meta found in
          omega (arith, enough, ap (λ (l : List ℕ). length l) part_is ∙ length-part bytes 24 (meta_length bytes) fits.1)

pub seen_is_whole : (found : Found) (brief : Brief) (bytes : List ℕ) → found.seen ≡ Whole brief → IsCheckResult bytes found.seen → brief.meta < 65536 → IsWhole found
seen_is_whole found brief bytes is seen short =
    let whole = subst (λ (x : Seen). IsCheckResult bytes x) is seen in
    let stands = whole.1 in
    let meta : brief.meta ≡ whole.0.meta = ap (λ (b : Brief). b.meta) whole.2 in
    let size : brief.size ≡ length whole.0.content = ap (λ (b : Brief). b.size) whole.2 in
    let meta_bytes : brief.meta ≡ meta_length bytes = meta ∙ ap (λ (c : Chunk). c.meta) stands.5 in
    let mark_bytes : brief.mark ≡ mark_of bytes = ap (λ (b : Brief). b.mark) whole.2 ∙ ap (λ (c : Chunk). c.mark) stands.5 in
    let outputs_are : brief.outputs ≡ stands.0.outputs = ap (λ (b : Brief). b.outputs) whole.2 ∙ ap (λ (c : Chunk). c.outputs) stands.5 in (
      brief,
      is,
      omega (arith, found_offsets found bytes whole.0 whole.1),
      λ marked. (omega (arith, holds_names bytes stands.0 stands.3 (sym mark_bytes ∙ marked), meta_bytes, ap named_length outputs_are), short),
    )
