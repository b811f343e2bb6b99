-- One byte more than the longest file is enough to determine the reading.
use Rattle.std.proofs.Common.{◌≡◌, ◌⊎◌, inl, inr, ℕ, ◌<◌, ◌≤◌, List, length, take, length-take, Result, Ok, Err, refl, sym, ◌∙◌, subst, arith}
use Rattle.std.proofs.lemmas.Bool.{lt-ltb}
use Rattle.std.proofs.lemmas.List.{take_all}
use Rattle.fwd_base.specs.Limits.{longest_file}
use Rattle.fwd_chunk.specs.declared.chunk.Seen.{Seen}
use Rattle.fwd_chunk.specs.declared.metadata.Metadata.{Metadata}
use Rattle.fwd_chunk.specs.declared.chunk.Seen.TheVariants.{Whole, Empty, Refused}
use Rattle.fwd_chunk.specs.declared.refusal.NotAChunk.{NotAChunk}
use Rattle.fwd_chunk.specs.declared.refusal.NotAChunk.TheVariants.{TooLong}
use Rattle.fwd_chunk.specs.Format.{parse_header, ChunkRead, StandsFor}
use Rattle.fwd_chunk.specs.Check.{refusal_of, IsCheckResult, enough_bytes}
use Rattle.fwd_chunk.proofs.OneReading.{refused}

pub too_long : (bytes : List ℕ) → longest_file < length bytes → parse_header bytes ≡ Err TooLong
too_long bytes long = let is = lt-ltb longest_file (length bytes) long in rw is refl

-- bytes that are too long have this reading
stands_too_long : (bytes part : List ℕ) → parse_header bytes ≡ Err TooLong → parse_header part ≡ Err TooLong → (r : ChunkRead) → StandsFor part r → StandsFor bytes r
stands_too_long bytes part long is (Ok chunk) stands = let no : Err TooLong ≡ Ok stands.0 = sym is ∙ stands.3 in absurd (cc no)
stands_too_long bytes part long is (Err e) stands = elim (refused part e stands) [
  | inl by ↦
      let same : ◌≡◌ {A = Result Metadata NotAChunk} (Err TooLong) (Err e) = sym is ∙ by in
      let kind : TooLong ≡ e = cc same in
      subst (λ (x : NotAChunk). StandsFor bytes (Err x)) kind long
  | inr bad ↦ let no : Err TooLong ≡ Ok bad.1 = sym is ∙ bad.2 in absurd (cc no)
]

stands_as_part : (bytes : List ℕ) (r : ChunkRead) → (length bytes ≤ longest_file) ⊎ (longest_file < length bytes) → StandsFor (take enough_bytes bytes) r → StandsFor bytes r
stands_as_part bytes r (inl short) stands =
    let all : take enough_bytes bytes ≡ bytes = take_all enough_bytes bytes (omega arith) in
    subst (λ (b : List ℕ). StandsFor b r) all stands
stands_as_part bytes r (inr long) stands =
    stands_too_long bytes (take enough_bytes bytes) (too_long bytes long) (too_long (take enough_bytes bytes) (omega (arith, length-take enough_bytes bytes))) r stands

short_or_long : (bytes : List ℕ) → (length bytes ≤ longest_file) ⊎ (longest_file < length bytes)
short_or_long bytes = grind arith

part_stands : (bytes : List ℕ) (r : ChunkRead) → StandsFor (take enough_bytes bytes) r → StandsFor bytes r
part_stands bytes r stands = stands_as_part bytes r (short_or_long bytes) stands

pub part_is_seen : (bytes : List ℕ) (seen : Seen) → IsCheckResult (take enough_bytes bytes) seen → IsCheckResult bytes seen
part_is_seen bytes (Whole brief) seen = (seen.0, part_stands bytes (Ok seen.0) seen.1, seen.2, seen.3)
part_is_seen bytes (Empty brief) seen = (seen.0, part_stands bytes (Ok seen.0) seen.1, seen.2, seen.3)
part_is_seen bytes (Refused kind) seen = part_stands bytes (Err (refusal_of kind)) seen
