-- The reading of bytes is the value of the function.
use Rattle.std.proofs.Common.{◌≡◌, ◌↔◌, inl, inr, ℕ, ◌+◌, Bool, true, false, not, IsTrue, ◌==◌, ◌&&◌, nat_lt, if◌then◌else◌, List, length, take, Option, Some, None, Result, Ok, Err, refl, sym, ap, subst, ◌∙◌}
use Rattle.std.specs.Str.{is_utf8}
use Rattle.std.proofs.lemmas.Bool.{eqb-true, eqb-false}
use Rattle.fwd_base.specs.Limits.{longest_file}
use Rattle.fwd_event.specs.declared.event.Event.{Event}
use Rattle.fwd_event.specs.Event.{AreEvents}
use Rattle.fwd_event.specs.EventPrefix.{events_in}
use Rattle.fwd_event.proofs.EventPrefix.{whole_prefix_of, all_events, events_all}
use Rattle.fwd_chunk.specs.Layout.{part, meta_length, committed_length}
use Rattle.fwd_chunk.specs.declared.metadata.Metadata.{Metadata}
use Rattle.fwd_chunk.specs.declared.refusal.NotAChunk.{NotAChunk}
use Rattle.fwd_chunk.specs.declared.refusal.NotAChunk.TheVariants.{TooShort, BadId, BadLength, NotUtf8Tag, BadEvents, TooLong}
use Rattle.fwd_chunk.specs.Metadata.{MetadataMeaning, tag_of, parse_named, without_outputs, said_named, said_by, parse_metadata}
use Rattle.fwd_chunk.specs.Format.{mark_of, is_marked, has_id, body_of, metadata_of, if_long_enough, if_valid_tag, headed_by, parse_header, chunk_of, ChunkRead, StandsFor}
use Rattle.fwd_chunk.specs.FormatFunction.{marked, unmarked, stands_by, stands}
use Rattle.fwd_chunk.proofs.OneReading.{refused_by_header, one_answer}

-- the header refuses for each reason but one
abbrev IsHeaders : NotAChunk → Type 0
IsHeaders BadEvents = ⊥
IsHeaders _ = Unit {0}

abbrev Fine : {T : Type 0} → Result T NotAChunk → Type 0
Fine (Ok x) = Unit {0}
Fine (Err e) = IsHeaders e

if_fine : {T : Type 0} (b : Bool) (x y : Result T NotAChunk) → Fine x → Fine y → Fine (if b then x else y)
if_fine true x y h k = h
if_fine false x y h k = k

fine_metadata : (bytes : List ℕ) → Fine (metadata_of bytes)
fine_metadata bytes =
    let meta : Result (List ℕ) NotAChunk = Ok (part bytes 24 (meta_length bytes)) in
    let whole : Result (List ℕ) NotAChunk = if nat_lt (length bytes) (24 + meta_length bytes) then Err TooShort else meta in
    let known : Result (List ℕ) NotAChunk = if not (has_id bytes) then Err BadId else whole in
    let long : Result (List ℕ) NotAChunk = if nat_lt (length bytes) 24 then Err TooShort else known in
    if_fine (nat_lt longest_file (length bytes)) (Err TooLong) long tt (if_fine (nat_lt (length bytes) 24) (Err TooShort) known tt
    (if_fine (not (has_id bytes)) (Err BadId) whole tt (if_fine (nat_lt (length bytes) (24 + meta_length bytes)) (Err TooShort) meta tt tt)))

fine_named : (o : Option MetadataMeaning) → Fine (said_named o)
fine_named None = tt
fine_named (Some m) = tt

fine_said : (mark : ℕ) (meta : List ℕ) → Fine (parse_metadata mark meta)
fine_said mark meta = by (tag_of meta)
  where
    by : (o : Option (List ℕ)) → Fine (said_by mark meta o)
    by None = tt
    by (Some tag) = if_fine (mark == 2) (said_named (parse_named meta)) (Ok (without_outputs tag)) (fine_named (parse_named meta)) tt

fine_tagged : (bytes : List ℕ) (r : Result Metadata NotAChunk) → Fine r → Fine (if_valid_tag bytes r)
fine_tagged bytes (Err e) h = h
fine_tagged bytes (Ok m) h = if_fine (is_utf8 m.tag) (if_long_enough bytes m) (Err NotUtf8Tag) (if_fine (is_marked bytes && nat_lt (length (body_of bytes)) (committed_length bytes)) (Err BadLength) (Ok m) tt tt) tt

fine_by : (bytes : List ℕ) (r : Result (List ℕ) NotAChunk) → Fine r → Fine (headed_by bytes r)
fine_by bytes (Err e) h = h
fine_by bytes (Ok meta) h = fine_tagged bytes (parse_metadata (mark_of bytes) meta) (fine_said (mark_of bytes) meta)

pub headers : (bytes : List ℕ) (e : NotAChunk) → parse_header bytes ≡ Err e → e ≡ BadEvents → ⊥
headers bytes e is same =
    let fine : Fine (parse_header bytes) = fine_by bytes (metadata_of bytes) (fine_metadata bytes) in
    let here : IsHeaders e = subst (λ (r : Result Metadata NotAChunk). Fine r) is fine in
    subst IsHeaders same here

-- ---- the value of the function is the reading

module _ (bytes : List ℕ) (m : Metadata) (head : parse_header bytes ≡ Ok m) where
  abbrev bytes_of_it : List ℕ
  bytes_of_it = take (committed_length bytes) (body_of bytes)

  all_of_it : (x : List Event × ℕ) → events_in bytes_of_it ≡ x → x.1 ≡ length bytes_of_it → AreEvents x.0 bytes_of_it
  all_of_it x is n = events_all x.0 bytes_of_it (is ∙ (λ i. (x.0, n i)))

  by_marked : (b : Bool) (x : List Event × ℕ) → IsTrue (is_marked bytes) → events_in bytes_of_it ≡ x → (x.1 == length bytes_of_it) ≡ b
      → StandsFor bytes (if b then Ok (chunk_of bytes m x.0 (committed_length bytes)) else Err BadEvents)
  by_marked true x is found n = (m, x.0, committed_length bytes, head, inl (is, refl, all_of_it x found (eqb-true x.1 (length bytes_of_it) n)), refl)
  by_marked false x is found n = (
    m,
    head,
    (
      is,
      λ events are.
          let all : events_in bytes_of_it ≡ (events, length bytes_of_it) = all_events events bytes_of_it are in
          eqb-false x.1 (length bytes_of_it) n (ap (λ (y : List Event × ℕ). y.1) (sym found ∙ all)),
    ),
  )

  by_mark : (b : Bool) → is_marked bytes ≡ b → StandsFor bytes (if b then marked bytes m (events_in bytes_of_it) else unmarked bytes m (events_in (body_of bytes)))
  by_mark true is = by_marked ((events_in bytes_of_it).1 == length bytes_of_it) (events_in bytes_of_it) is refl refl
  by_mark false is = (m, (events_in (body_of bytes)).0, (events_in (body_of bytes)).1, head, inr (ap not is, whole_prefix_of (body_of bytes)), refl)

by_head : (bytes : List ℕ) (r : Result Metadata NotAChunk) → parse_header bytes ≡ r → StandsFor bytes (stands_by bytes r)
by_head bytes (Err e) is = refused_by_header bytes e (headers bytes e is) is
by_head bytes (Ok m) is = by_mark bytes m is (is_marked bytes) refl

pub stands_so : (bytes : List ℕ) → StandsFor bytes (stands bytes)
unfolding stands
stands_so bytes = by_head bytes (parse_header bytes) refl

pub stands_exactly : (bytes : List ℕ) (answer : ChunkRead) → StandsFor bytes answer ↔ (answer ≡ stands bytes)
stands_exactly bytes answer = (λ h. one_answer bytes answer (stands bytes) h (stands_so bytes), λ e. subst (StandsFor bytes) (sym e) (stands_so bytes))
