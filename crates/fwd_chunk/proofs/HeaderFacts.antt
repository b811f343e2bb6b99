-- The header of a valid file, the meaning of its metadata, and its length.
use Rattle.std.proofs.Common.{◌≡◌, ℕ, ◌+◌, ◌-◌, ◌≤◌, min, Bool, true, false, IsTrue, not, ◌&&◌, nat_lt, if◌then◌else◌, List, length, length-take, length-drop, Result, Ok, Err, refl, ap, ◌∙◌, arith}
use Rattle.std.specs.Str.{is_utf8}
use Rattle.std.proofs.lemmas.Bool.{le-ltb, ltb-false}
use Rattle.fwd_base.specs.Limits.{longest_file}
use Rattle.fwd_chunk.specs.Layout.{part, meta_length, committed_length}
use Rattle.fwd_chunk.specs.declared.chunk.Chunk.{Chunk}
use Rattle.fwd_chunk.specs.declared.metadata.Metadata.{Metadata}
use Rattle.fwd_chunk.specs.declared.refusal.NotAChunk.{NotAChunk}
use Rattle.fwd_chunk.specs.declared.refusal.NotAChunk.TheVariants.{TooLong, TooShort, BadId, BadLength, NotUtf8Tag}
use Rattle.fwd_chunk.specs.Metadata.{parse_metadata}
use Rattle.fwd_chunk.specs.Format.{mark_of, is_marked, has_id, metadata_of, if_long_enough, if_valid_tag, headed_by, parse_header, body_of, StandsFor}

abbrev Head : Type 0
Head = Result Metadata NotAChunk

abbrev Meta : Type 0
Meta = Result (List ℕ) NotAChunk

pub metadata_is : (bytes : List ℕ) → length bytes ≤ longest_file → 24 ≤ length bytes → has_id bytes ≡ true → 24 + meta_length bytes ≤ length bytes
    → metadata_of bytes ≡ Ok (part bytes 24 (meta_length bytes))
metadata_is bytes short header id whole =
    let a : nat_lt longest_file (length bytes) ≡ false = le-ltb longest_file (length bytes) short in
    let b : nat_lt (length bytes) 24 ≡ false = le-ltb (length bytes) 24 header in
    let c : not (has_id bytes) ≡ false = ap not id in
    let d : nat_lt (length bytes) (24 + meta_length bytes) ≡ false = le-ltb (length bytes) (24 + meta_length bytes) whole in
    rw (a, b, c, d) refl

-- the metadata that are read are complete
pub whole_metadata : (bytes meta : List ℕ) → metadata_of bytes ≡ Ok meta → (length bytes ≤ longest_file) × (24 + meta_length bytes ≤ length bytes)
whole_metadata bytes meta is = by (nat_lt longest_file (length bytes)) (nat_lt (length bytes) 24) (has_id bytes) (nat_lt (length bytes) (24 + meta_length bytes)) refl refl is
  where
    by : (long short known cut : Bool) → nat_lt longest_file (length bytes) ≡ long → nat_lt (length bytes) (24 + meta_length bytes) ≡ cut
        → ◌≡◌ {A = Meta} (if long then Err TooLong else if short then Err TooShort else if not known then Err BadId else if cut then Err TooShort else Ok (part bytes 24 (meta_length bytes))) (Ok meta)
        → (length bytes ≤ longest_file) × (24 + meta_length bytes ≤ length bytes)
    by true b known cut l c is = absurd (cc is)
    by false true known cut l c is = absurd (cc is)
    by false false false cut l c is = absurd (cc is)
    by false false true true l c is = absurd (cc is)
    by false false true false l c is = (ltb-false longest_file (length bytes) l, ltb-false (length bytes) (24 + meta_length bytes) c)

no_metadata : (e : NotAChunk) (m : Metadata) → ◌≡◌ {A = Head} (Err e) (Ok m) → ⊥
no_metadata e m is = cc is

-- a valid head has metadata
head_parts : (bytes : List ℕ) (r : Meta) (m : Metadata) → headed_by bytes r ≡ Ok m → (meta : List ℕ) × (r ≡ Ok meta) × (if_valid_tag bytes (parse_metadata (mark_of bytes) meta) ≡ Ok m)
head_parts bytes (Err e) m is = absurd (no_metadata e m is)
head_parts bytes (Ok meta) m is = (meta, refl, is)

-- the header and the metadata of a file that represents a chunk are complete
pub whole_header : (bytes : List ℕ) (m : Metadata) → parse_header bytes ≡ Ok m → (length bytes ≤ longest_file) × (24 + meta_length bytes ≤ length bytes)
whole_header bytes m is = let parts = head_parts bytes (metadata_of bytes) m is in whole_metadata bytes parts.0 parts.1

-- and a marked one has all of its committed bytes
pub long_enough : (bytes : List ℕ) (m : Metadata) → parse_header bytes ≡ Ok m → IsTrue (is_marked bytes) → committed_length bytes ≤ length (body_of bytes)
long_enough bytes m is marked = let parts = head_parts bytes (metadata_of bytes) m is in by_tag (parse_metadata (mark_of bytes) parts.0) parts.2
  where
    by_size : (known cut : Bool) (other : Metadata) → known ≡ true → nat_lt (length (body_of bytes)) (committed_length bytes) ≡ cut → ◌≡◌ {A = Head} (if known && cut then Err BadLength else Ok other) (Ok m) → committed_length bytes ≤ length (body_of bytes)
    by_size false cut other k c is = absurd (cc k)
    by_size true true other k c is = absurd (no_metadata BadLength m is)
    by_size true false other k c is = ltb-false (length (body_of bytes)) (committed_length bytes) c

    by_text : (text : Bool) (other : Metadata) → ◌≡◌ {A = Head} (if text then if_long_enough bytes other else Err NotUtf8Tag) (Ok m) → committed_length bytes ≤ length (body_of bytes)
    by_text false other is = absurd (no_metadata NotUtf8Tag m is)
    by_text true other is = by_size (is_marked bytes) (nat_lt (length (body_of bytes)) (committed_length bytes)) other marked refl is

    by_tag : (r : Head) → if_valid_tag bytes r ≡ Ok m → committed_length bytes ≤ length (body_of bytes)
    by_tag (Err e) is = absurd (no_metadata e m is)
    by_tag (Ok other) is = by_text (is_utf8 other.tag) other is

-- a chunk that was read ends within the longest file that is read
pub read_fits : (bytes : List ℕ) (chunk : Chunk) → StandsFor bytes (Ok chunk) → 24 + chunk.meta + length chunk.content ≤ longest_file
read_fits bytes chunk stands =
    let header = whole_header bytes stands.0 stands.3 in
    let meta_is : chunk.meta ≡ meta_length bytes = ap (λ (c : Chunk). c.meta) stands.5 in
    let size : length chunk.content ≡ min stands.2 (length (body_of bytes)) = ap (λ (c : Chunk). length c.content) stands.5 ∙ length-take stands.2 (body_of bytes) in
    let rest : length (body_of bytes) ≡ length bytes - (24 + meta_length bytes) = length-drop (24 + meta_length bytes) bytes in
    omega (arith, header.0, header.1)
