-- What was recovered from bytes is what they represent; and the header and the metadata of such bytes.
use Rattle.std.proofs.Common.{◌≡◌, ℕ, ◌+◌, Bool, true, false, not, ◌==◌, ◌&&◌, nat_lt, if◌then◌else◌, List, length, Option, Some, None, Result, Ok, Err, refl, sym, ap, ◌∙◌}
use Rattle.std.specs.Str.{is_utf8}
use Rattle.std.specs.Prelude.{slice_index}
use Rattle.std.proofs.lemmas.Bool.{eqb-true}
use Rattle.fwd_base.specs.Limits.{longest_file}
use Rattle.fwd_chunk.specs.Layout.{part, meta_length, committed_length}
use Rattle.fwd_chunk.specs.declared.chunk.Chunk.{Chunk}
use Rattle.fwd_chunk.specs.declared.metadata.Metadata.{Metadata}
use Rattle.fwd_chunk.specs.declared.refusal.NotAChunk.{NotAChunk}
use Rattle.fwd_chunk.specs.declared.refusal.NotAChunk.TheVariants.{TooShort, BadId, BadLength, NotLogs, BadOutputs, NotUtf8Tag, TooLong}
use Rattle.fwd_chunk.specs.Metadata.{MetadataMeaning, tag_of, parse_named, as_metadata, said_named, said_by, parse_metadata}
use Rattle.fwd_chunk.specs.Format.{mark_of, is_marked, has_id, body_of, if_long_enough, if_valid_tag, headed_by, parse_header, ChunkRead, StandsFor}
use Rattle.fwd_chunk.specs.FormatFunction.{stands}
use Rattle.fwd_chunk.proofs.Conditionals.{both, unless, same_value}
use Rattle.fwd_chunk.proofs.FormatMatch.{stands_exactly}
use Rattle.fwd_model.specs.RecoveredFile.{nonempty_chunk, recovered_chunk}

-- ---- what was recovered

-- bytes that represent a chunk with at least one event
pub record IsRead (bytes : List ℕ) (chunk : Chunk) : Type 0 where
  pub stand : StandsFor bytes (Ok chunk)
  pub some : (chunk.events == 0) ≡ false

whole_were : (read : ChunkRead) (chunk : Chunk) → nonempty_chunk read ≡ Some chunk → (read ≡ Ok chunk) × ((chunk.events == 0) ≡ false)
whole_were (Err e) chunk is = absurd (cc is)
whole_were (Ok c) chunk is =
    let parts = unless (c.events == 0) (Some c) chunk is in
    let same : c ≡ chunk = same_value c chunk parts.1 in
    (ap Ok same, ap (λ (x : Chunk). x.events == 0) (sym same) ∙ parts.0)

pub read_of : (bytes : List ℕ) (chunk : Chunk) → recovered_chunk bytes ≡ Some chunk → IsRead bytes chunk
read_of bytes chunk is =
    let parts = whole_were (stands bytes) chunk is in
    record { stand = (stands_exactly bytes (Ok chunk)).1 (sym parts.0); some = parts.1 }

pub found_of : (bytes : List ℕ) (chunk : Chunk) → StandsFor bytes (Ok chunk) → (chunk.events == 0) ≡ false → recovered_chunk bytes ≡ Some chunk
found_of bytes chunk stand some =
    ap nonempty_chunk (sym ((stands_exactly bytes (Ok chunk)).0 stand)) ∙ ap (λ (none : Bool). if none then None else Some chunk) some

-- ---- the header

abbrev Head : Type 0
Head = Result Metadata NotAChunk

no_metadata : (e : NotAChunk) (m : Metadata) → ◌≡◌ {A = Head} (Err e) (Ok m) → ⊥
no_metadata e m is = cc is

same_metadata : (one other : Metadata) → ◌≡◌ {A = Head} (Ok one) (Ok other) → one ≡ other
same_metadata one other is = cc is

size_was : (cut : Bool) (other m : Metadata) → ◌≡◌ {A = Head} (if cut then Err BadLength else Ok other) (Ok m) → other ≡ m
size_was true other m is = absurd (no_metadata BadLength m is)
size_was false other m is = same_metadata other m is

text_was : (bytes : List ℕ) (text : Bool) (other m : Metadata) → is_utf8 other.tag ≡ text → ◌≡◌ {A = Head} (if text then if_long_enough bytes other else Err NotUtf8Tag) (Ok m)
    → (other ≡ m) × (is_utf8 m.tag ≡ true)
text_was bytes false other m t is = absurd (no_metadata NotUtf8Tag m is)
text_was bytes true other m t is =
    let same = size_was (is_marked bytes && nat_lt (length (body_of bytes)) (committed_length bytes)) other m is in
    (same, ap (λ (x : Metadata). is_utf8 x.tag) (sym same) ∙ t)

tag_was : (bytes : List ℕ) (r : Head) (m : Metadata) → if_valid_tag bytes r ≡ Ok m → (r ≡ Ok m) × (is_utf8 m.tag ≡ true)
tag_was bytes (Err e) m is = absurd (no_metadata e m is)
tag_was bytes (Ok other) m is = let parts = text_was bytes (is_utf8 other.tag) other m refl is in (ap Ok parts.0, parts.1)

-- a header that was read: it has the id, and its metadata say this
pub record IsHeaded (bytes : List ℕ) (m : Metadata) : Type 0 where
  pub id : slice_index bytes 0 ≡ 193
  pub id_end : slice_index bytes 1 ≡ 0
  pub says : parse_metadata (mark_of bytes) (part bytes 24 (meta_length bytes)) ≡ Ok m
  pub text : is_utf8 m.tag ≡ true

pub headed_was : (bytes : List ℕ) (m : Metadata) → parse_header bytes ≡ Ok m → IsHeaded bytes m
headed_was bytes m is = by (nat_lt longest_file (length bytes)) (nat_lt (length bytes) 24) (has_id bytes) (nat_lt (length bytes) (24 + meta_length bytes)) refl is
  where
    by : (long short known cut : Bool) → has_id bytes ≡ known
        → headed_by bytes (if long then Err TooLong else if short then Err TooShort else if not known then Err BadId else if cut then Err TooShort else Ok (part bytes 24 (meta_length bytes))) ≡ Ok m
        → IsHeaded bytes m
    by true short known cut k is = absurd (no_metadata TooLong m is)
    by false true known cut k is = absurd (no_metadata TooShort m is)
    by false false false cut k is = absurd (no_metadata BadId m is)
    by false false true true k is = absurd (no_metadata TooShort m is)
    by false false true false k is =
        let parts = tag_was bytes (parse_metadata (mark_of bytes) (part bytes 24 (meta_length bytes))) m is in
        let known = both ((slice_index bytes 0 == 193) && (slice_index bytes 1 == 0)) (nat_lt (mark_of bytes) 3) k in
        let ids = both (slice_index bytes 0 == 193) (slice_index bytes 1 == 0) known.0 in
        record {
          id = eqb-true (slice_index bytes 0) 193 ids.0;
          id_end = eqb-true (slice_index bytes 1) 0 ids.1;
          says = parts.0;
          text = parts.1;
        }

-- ---- metadata of mark 2

meaning_was : (o : Option MetadataMeaning) (m : Metadata) → said_named o ≡ Ok m → (x : MetadataMeaning) × (o ≡ Some x) × (as_metadata x ≡ m)
meaning_was None m is = absurd (no_metadata BadOutputs m is)
meaning_was (Some x) m is = (x, refl, same_metadata (as_metadata x) m is)

by_tag : (meta : List ℕ) (tag : Option (List ℕ)) (m : Metadata) → said_by 2 meta tag ≡ Ok m → said_named (parse_named meta) ≡ Ok m
by_tag meta None m is = absurd (no_metadata NotLogs m is)
by_tag meta (Some tag) m is = is

-- metadata of mark 2 name outputs
pub named_was : (meta : List ℕ) (m : Metadata) → parse_metadata 2 meta ≡ Ok m → (x : MetadataMeaning) × (parse_named meta ≡ Some x) × (as_metadata x ≡ m)
named_was meta m is = meaning_was (parse_named meta) m (by_tag meta (tag_of meta) m is)
