-- The metadata of a recovered file can hold the outputs that they name.
use Rattle.std.proofs.Common.{◌≡◌, ℕ, ◌+◌, ◌^◌, ◌≤◌, ◌<◌, Bool, true, false, not, List, [], ◌∷◌, length, drop, Option, Some, None, Result, Ok, Err, refl, sym, ap, subst, ◌∙◌, arith}
use Rattle.std.specs.Prelude.{if◌then◌else◌, nat_lt, flat_map, ◌&&◌, All}
use Rattle.std.specs.Str.{is_utf8}
use Rattle.std.proofs.lemmas.List.{length-append, length-take-le, length-drop}
use Rattle.fwd_base.specs.Limits.{longest_file}
use Rattle.fwd_chunk.specs.Layout.{named_output_bytes, named_meta_bytes, part, meta_length, committed_length}
use Rattle.fwd_chunk.specs.Outcome.{named_length}
use Rattle.fwd_chunk.proofs.OutcomeByte.{length-outputs_bytes}
use Rattle.fwd_chunk.specs.declared.chunk.Chunk.{Chunk}
use Rattle.fwd_chunk.specs.declared.chunk.Brief.{Brief}
use Rattle.fwd_chunk.specs.declared.chunk.Found.{Found}
use Rattle.fwd_chunk.specs.declared.chunk.Seen.TheVariants.{Whole}
use Rattle.fwd_chunk.specs.declared.metadata.Metadata.{Metadata}
use Rattle.fwd_chunk.specs.declared.refusal.NotAChunk.{NotAChunk}
use Rattle.fwd_chunk.specs.declared.refusal.NotAChunk.TheVariants.{TooShort, BadId, BadLength, NotLogs, BadOutputs, NotUtf8Tag, TooLong}
use Rattle.fwd_chunk.specs.Check.{IsCheckResult, IfWhole}
use Rattle.fwd_chunk.specs.Format.{mark_of, is_marked, has_id, body_of, metadata_of, if_valid_tag, headed_by, parse_header}
use Rattle.fwd_chunk.specs.Metadata.{MetadataMeaning, tag_of, parse_named, as_metadata, parse_metadata, said_by, said_named}
use Rattle.fwd_chunk.proofs.HeaderFacts.{whole_metadata, read_fits}
use Rattle.fwd_chunk.proofs.NamedMetadata.{named_were}
use Rattle.std.specs.List.{AllZip}
use Rattle.std.proofs.lemmas.List.Elements.{All-nil, All-cons, All-head, All-tail}
use Rattle.fwd_backlog.specs.declared.file_read.FileRead.{FileRead}
use Rattle.fwd_backlog.specs.LoadProgram.{IsDescriptionOf}
use Rattle.fwd_backlog.specs.Groups.{HasShortMeta}
use Rattle.fwd_engine_recovery.specs.Adoption.{FitsStore}

abbrev Meta : Type 0
Meta = Result (List ℕ) NotAChunk

abbrev Head : Type 0
Head = Result Metadata NotAChunk

no_head : (e : NotAChunk) (m : Metadata) → ◌≡◌ {A = Head} (Err e) (Ok m) → ⊥
no_head e m is = cc is

head_parts : (bytes : List ℕ) (r : Meta) (m : Metadata) → headed_by bytes r ≡ Ok m → (meta : List ℕ) × (r ≡ Ok meta) × (if_valid_tag bytes (parse_metadata (mark_of bytes) meta) ≡ Ok m)
head_parts bytes (Err e) m is = absurd (no_head e m is)
head_parts bytes (Ok meta) m is = (meta, refl, is)

meta_part : (bytes meta : List ℕ) → metadata_of bytes ≡ Ok meta → part bytes 24 (meta_length bytes) ≡ meta
meta_part bytes meta is = by (nat_lt longest_file (length bytes)) (nat_lt (length bytes) 24) (has_id bytes) (nat_lt (length bytes) (24 + meta_length bytes)) is
  where
    by : (long short known cut : Bool)
        → ◌≡◌ {A = Meta} (if long then Err TooLong else if short then Err TooShort else if not known then Err BadId else if cut then Err TooShort else Ok (part bytes 24 (meta_length bytes))) (Ok meta)
        → part bytes 24 (meta_length bytes) ≡ meta
    by true b known cut is = absurd (cc is)
    by false true known cut is = absurd (cc is)
    by false false false cut is = absurd (cc is)
    by false false true true is = absurd (cc is)
    by false false true false is = cc is

tagged_so : (bytes : List ℕ) (r : Head) (m : Metadata) → if_valid_tag bytes r ≡ Ok m → r ≡ Ok m
tagged_so bytes (Err e) m is = is
tagged_so bytes (Ok other) m is = by (is_utf8 other.tag) (is_marked bytes && nat_lt (length (body_of bytes)) (committed_length bytes)) is
  where
    by : (text cut : Bool) → ◌≡◌ {A = Head} (if text then (if cut then Err BadLength else Ok other) else Err NotUtf8Tag) (Ok m) → ◌≡◌ {A = Head} (Ok other) (Ok m)
    by true true is = absurd (no_head BadLength m is)
    by true false is = is
    by false cut is = absurd (no_head NotUtf8Tag m is)

named_so : (o : Option MetadataMeaning) (m : Metadata) → said_named o ≡ Ok m → (meaning : MetadataMeaning) × (o ≡ Some meaning) × (m ≡ as_metadata meaning)
named_so None m is = absurd (no_head BadOutputs m is)
named_so (Some meaning) m is = (meaning, refl, let e : as_metadata meaning ≡ m = cc is in sym e)

said_so : (meta : List ℕ) (o : Option (List ℕ)) (m : Metadata) → said_by 2 meta o ≡ Ok m → said_named (parse_named meta) ≡ Ok m
said_so meta None m is = absurd (no_head NotLogs m is)
said_so meta (Some tag) m is = is

outputs_fit : (bytes : List ℕ) (m : Metadata) → parse_header bytes ≡ Ok m → mark_of bytes ≡ 2 → 7 + named_length m.outputs ≤ meta_length bytes
outputs_fit bytes m is mark =
    let head = head_parts bytes (metadata_of bytes) m is in
    let meta : List ℕ = head.0 in
    let said_is : said_by (mark_of bytes) meta (tag_of meta) ≡ Ok m = tagged_so bytes (parse_metadata (mark_of bytes) meta) m head.2 in
    let says = named_so (parse_named meta) m (said_so meta (tag_of meta) m (subst (λ (n : ℕ). said_by n meta (tag_of meta) ≡ Ok m) mark said_is)) in
    let meaning : MetadataMeaning = says.0 in
    let were = named_were meta meaning says.1 in
    let long = whole_metadata bytes meta head.1 in
    let part_is : part bytes 24 (meta_length bytes) ≡ meta = meta_part bytes meta head.1 in
    let outputs : named_length m.outputs ≡ length (flat_map named_output_bytes meaning.outputs) = ap (λ (x : Metadata). named_length x.outputs) says.2 ∙ sym (length-outputs_bytes meaning.outputs) in
    let size : length meta ≡ length (named_meta_bytes meaning.tag meaning.outputs) = ap length were.0 in
    let taken : length meta ≡ meta_length bytes = sym (ap length part_is) ∙ part_length bytes (meta_length bytes) long.1 in
    omega (arith, outputs, size, taken, length-append meaning.tag (length meaning.outputs ∷ flat_map named_output_bytes meaning.outputs))
  where
    part_length : (bytes : List ℕ) (n : ℕ) → 24 + n ≤ length bytes → length (part bytes 24 n) ≡ n
    part_length bytes n le = length-take-le n (drop 24 bytes) (omega (arith, le, length-drop 24 bytes))

pub can_be_held : (bytes : List ℕ) (found : Found) → IsCheckResult bytes found.seen → HasShortMeta found → FitsStore found
can_be_held bytes found seen short brief is =
    let its : IsCheckResult bytes (Whole brief) = subst (IsCheckResult bytes) is seen in
    let few : brief.meta < 2 ^ 16 = subst (IfWhole (λ (b : Brief). b.meta < 2 ^ 16)) is short in
    let chunk : Chunk = its.0 in
    let fits = read_fits bytes chunk its.1 in
    let of_meta : brief.meta ≡ chunk.meta = ap (λ (b : Brief). b.meta) its.2 in
    let of_size : brief.size ≡ length chunk.content = ap (λ (b : Brief). b.size) its.2 in
    let of_mark : brief.mark ≡ chunk.mark = ap (λ (b : Brief). b.mark) its.2 in
    let of_outputs : brief.outputs ≡ chunk.outputs = ap (λ (b : Brief). b.outputs) its.2 in
    let from = its.1 in
    let m : Metadata = from.0 in
    let whole = from.5 in
    let mark_is : chunk.mark ≡ mark_of bytes = ap (λ (c : Chunk). c.mark) whole in
    let meta_is : chunk.meta ≡ meta_length bytes = ap (λ (c : Chunk). c.meta) whole in
    let outputs_are : chunk.outputs ≡ m.outputs = ap (λ (c : Chunk). c.outputs) whole in (
      omega (arith, fits, of_meta, of_size),
      λ two.
          let room = outputs_fit bytes m from.3 (sym mark_is ∙ sym of_mark ∙ two) in
          let names : named_length brief.outputs ≡ named_length m.outputs = ap named_length (of_outputs ∙ outputs_are) in
          (omega (arith, room, names, of_meta, meta_is), few),
    )

-- each file that was read can be adopted
pub all_held : (files : List FileRead) (found : List Found) → AllZip IsDescriptionOf files found → All HasShortMeta found → All FitsStore found
all_held [] [] each short = All-nil FitsStore
all_held [] (f ∷ fs) each short = absurd each
all_held (r ∷ rs) [] each short = absurd each
all_held (r ∷ rs) (f ∷ fs) each short =
    All-cons FitsStore f fs (can_be_held r.bytes f each.0.seen (All-head HasShortMeta f fs short)) (all_held rs fs each.1 (All-tail HasShortMeta f fs short))
