-- The bytes of a file have one reading.
use Rattle.std.proofs.Common.{◌≡◌, ℕ, Bool, true, false, not, IsTrue, List, take, Result, Ok, Err, refl, sym, ap, subst, ◌∙◌, arith, inl, inr, ◌⊎◌, ◌↔◌}
use Rattle.fwd_event.specs.declared.event.Event.{Event}
use Rattle.fwd_event.specs.Event.{AreEvents, IsWholePrefix}
use Rattle.fwd_event.proofs.EventLists.{events_same}
use Rattle.fwd_chunk.specs.declared.chunk.Chunk.{Chunk}
use Rattle.fwd_chunk.specs.declared.metadata.Metadata.{Metadata}
use Rattle.fwd_chunk.specs.declared.refusal.NotAChunk.{NotAChunk}
use Rattle.fwd_chunk.specs.declared.refusal.NotAChunk.TheVariants.{TooShort, BadId, BadLength, NotLogs, BadOutputs, NotUtf8Tag, BadEvents, Memory, TooLong}
use Rattle.fwd_chunk.specs.Format.{is_marked, body_of, parse_header, HasContent, HasBadEvents, chunk_of, ChunkRead, StandsFor, IsMemory}

not_both : (b : Bool) → IsTrue b → IsTrue (not b) → ⊥
not_both true x y = let no : false ≡ true = y in cc no
not_both false x y = let no : false ≡ true = x in cc no

one_length : (es fs : List Event) (n m : ℕ) (b : List ℕ) → IsWholePrefix es n b → IsWholePrefix fs m b → n ≡ m
one_length es fs n m b x y =
    let one = x.longest m fs y.within y.are in
    let two = y.longest n es x.within x.are in
    omega arith

one_list : (es fs : List Event) (n m : ℕ) (b : List ℕ) → n ≡ m → AreEvents es (take n b) → AreEvents fs (take m b) → es ≡ fs
one_list es fs n m b same x y = events_same es fs (take m b) (subst (λ (k : ℕ). AreEvents es (take k b)) same x) y

one_content : (bytes : List ℕ) (es fs : List Event) (n m : ℕ) → HasContent bytes es n → HasContent bytes fs m → (es ≡ fs) × (n ≡ m)
one_content bytes es fs n m (inl x) (inl y) = let same : n ≡ m = x.1 ∙ sym y.1 in (one_list es fs n m (body_of bytes) same x.2 y.2, same)
one_content bytes es fs n m (inl x) (inr y) = absurd (not_both (is_marked bytes) x.0 y.0)
one_content bytes es fs n m (inr x) (inl y) = absurd (not_both (is_marked bytes) y.0 x.0)
one_content bytes es fs n m (inr x) (inr y) =
    let same = one_length es fs n m (body_of bytes) x.1 y.1 in
    (one_list es fs n m (body_of bytes) same x.1.are y.1.are, same)

same_metadata : (t u : Metadata) → ◌≡◌ {A = Result Metadata NotAChunk} (Ok t) (Ok u) → t ≡ u
same_metadata t u h = cc

one_chunk : (bytes : List ℕ) (a b : Chunk) → StandsFor bytes (Ok a) → StandsFor bytes (Ok b) → a ≡ b
one_chunk bytes a b x y =
    let heads = same_metadata x.0 y.0 (sym x.3 ∙ y.3) in
    let same = one_content bytes x.1 y.1 x.2 y.2 x.4 y.4 in
    let chunks : chunk_of bytes x.0 x.1 x.2 ≡ chunk_of bytes y.0 y.1 y.2 = (λ i. chunk_of bytes (heads i) (same.0 i) (same.1 i)) in
    x.5 ∙ chunks ∙ sym y.5

-- the header refuses, or the committed content isn't events
abbrev pub Refused : List ℕ → NotAChunk → Type 0
Refused bytes e = (parse_header bytes ≡ Err e) ⊎ ((e ≡ BadEvents) × (metadata : Metadata) × (parse_header bytes ≡ Ok metadata) × HasBadEvents bytes)

pub refused : (bytes : List ℕ) (e : NotAChunk) → StandsFor bytes (Err e) → Refused bytes e
refused bytes TooShort h = inl h
refused bytes BadId h = inl h
refused bytes BadLength h = inl h
refused bytes NotLogs h = inl h
refused bytes BadOutputs h = inl h
refused bytes NotUtf8Tag h = inl h
refused bytes BadEvents h = inr (refl, h.0, h.1, h.2)
refused bytes Memory h = inl h
refused bytes TooLong h = inl h

-- the header's refusal is the answer
pub refused_by_header : (bytes : List ℕ) (e : NotAChunk) → (e ≡ BadEvents → ⊥) → parse_header bytes ≡ Err e → StandsFor bytes (Err e)
refused_by_header bytes TooShort never h = h
refused_by_header bytes BadId never h = h
refused_by_header bytes BadLength never h = h
refused_by_header bytes NotLogs never h = h
refused_by_header bytes BadOutputs never h = h
refused_by_header bytes NotUtf8Tag never h = h
refused_by_header bytes BadEvents never h = absurd (never refl)
refused_by_header bytes Memory never h = h
refused_by_header bytes TooLong never h = h

-- the header doesn't refuse
pub bad_content : (bytes : List ℕ) (metadata : Metadata) (e : NotAChunk) → parse_header bytes ≡ Ok metadata → (e ≡ Memory) ⊎ ((e ≡ BadEvents) × HasBadEvents bytes) → IsMemory (Err e) ⊎ StandsFor bytes (Err e)
bad_content bytes metadata e h (inl is) = inl (subst (λ (x : NotAChunk). IsMemory (Err x)) (sym is) tt)
bad_content bytes metadata e h (inr bad) = inr (subst (λ (x : NotAChunk). StandsFor bytes (Err x)) (sym bad.0) (metadata, h, bad.1))

has_no_fault : (bytes : List ℕ) (a : Chunk) (e : NotAChunk) → StandsFor bytes (Ok a) → Refused bytes e → ⊥
has_no_fault bytes a e x (inl h) = let no : Ok x.0 ≡ Err e = sym x.3 ∙ h in cc no
has_no_fault bytes a e x (inr h) = by_content x.4
  where
    by_content : HasContent bytes x.1 x.2 → ⊥
    by_content (inl c) = h.3.1 x.1 (subst (λ (k : ℕ). AreEvents x.1 (take k (body_of bytes))) c.1 c.2)
    by_content (inr c) = not_both (is_marked bytes) h.3.0 c.0

one_refusal : (bytes : List ℕ) (e f : NotAChunk) → Refused bytes e → Refused bytes f → e ≡ f
one_refusal bytes e f (inl x) (inl y) = let same : ◌≡◌ {A = Result Metadata NotAChunk} (Err e) (Err f) = sym x ∙ y in cc same
one_refusal bytes e f (inl x) (inr y) = let no : Err e ≡ Ok y.1 = sym x ∙ y.2 in absurd (cc no)
one_refusal bytes e f (inr x) (inl y) = let no : Ok x.1 ≡ Err f = sym x.2 ∙ y in absurd (cc no)
one_refusal bytes e f (inr x) (inr y) = x.0 ∙ sym y.0

pub one_answer : (bytes : List ℕ) (r s : ChunkRead) → StandsFor bytes r → StandsFor bytes s → r ≡ s
one_answer bytes (Ok a) (Ok b) x y = ap Ok (one_chunk bytes a b x y)
one_answer bytes (Ok a) (Err e) x y = absurd (has_no_fault bytes a e x (refused bytes e y))
one_answer bytes (Err e) (Ok b) x y = absurd (has_no_fault bytes b e y (refused bytes e x))
one_answer bytes (Err e) (Err f) x y = ap Err (one_refusal bytes e f (refused bytes e x) (refused bytes f y))

-- an answer that isn't out of memory is the one reading
pub exactly : (bytes : List ℕ) (r : ChunkRead) → IsMemory r ⊎ StandsFor bytes r → (s : ChunkRead) → IsMemory r ⊎ ((r ≡ s) ↔ StandsFor bytes s)
exactly bytes r h s = elim h [
  | inl m ↦ inl m
  | inr a ↦ inr (λ e. subst (StandsFor bytes) e a, λ b. one_answer bytes r s a b)
]
