-- Existing and closed chunks, and what a route sends, after one more fact.
use Rattle.std.proofs.Common.{◌≡◌, ℕ, ◌<◌, Bool, true, List, [], ◌∷◌, ◌++◌, Option, Some, None, inl, inr, refl, ap, arith}
use Rattle.std.specs.Prelude.{◌==◌, find}
use Rattle.std.specs.List.{list_any}
use Rattle.std.specs.Option.{option_map_or}
use Rattle.std.proofs.lemmas.Bool.{cases_Bool, eqb-true}
use Rattle.std.proofs.lemmas.List.Folds.{list_any-append}
use Rattle.fwd_event.specs.declared.event.Event.{Event}
use Rattle.fwd_chunk.specs.declared.chunk.Chunk.{Chunk}
use Rattle.fwd_settings.specs.declared.settings_types.AllSettings.{AllSettings}
use Rattle.fwd_model.specs.Fact.{Fact, History, Batch, Placement, NoChunk, NewChunk, AppendedTo, Route, Found, Offered, Accepted, ChunkClosed, OnRoute}
use Rattle.fwd_model.specs.Settings.{output_at}
use Rattle.fwd_model.specs.RecoveredFile.{recovered_chunk}
use Rattle.fwd_model.specs.Chunks.{ChunkInfo, chunks_of, recovered_info, created_info, next, is_closed}
use Rattle.fwd_model.specs.Payloads.{tag_of_chunk, delivery_at}
use Rattle.fwd_theorem_delivery.specs.LinkOutcomes.{was_opened, dial_target, delivers}

-- a chunk begins below the next number
abbrev pub MayBegin : Placement → History → Type 0
MayBegin NoChunk h = Unit {0}
MayBegin (NewChunk chunk) h = chunk < next h
MayBegin (AppendedTo chunk) h = Unit {0}

-- a fact that is about no route
abbrev pub MayNote : Fact → History → Type 0
MayNote (Accepted b place) h = MayBegin place h
MayNote (OnRoute r outcome) h = ⊥
MayNote fact h = Unit {0}

-- each chunk is below the next number
abbrev pub AreBelow : History → Type 0
AreBelow h = (chunk : ℕ) → was_opened h chunk ≡ true → chunk < next h

-- whether a number is among those of chunks
abbrev pub has_number : ℕ → List ChunkInfo → Bool
has_number chunk cs = list_any (λ (c : ChunkInfo). c.number == chunk) cs

pub any_left : {X : Type 0} (f : X → Bool) (xs ys : List X) → list_any f xs ≡ true → list_any f (xs ++ ys) ≡ true
any_left f xs ys is = rw (list_any-append f xs ys, is) refl

pub opened_stays : (fact : Fact) (h : History) (chunk : ℕ) → was_opened h chunk ≡ true → was_opened (fact ∷ h) chunk ≡ true
opened_stays (Found number stream name bytes) h chunk is = any_left (λ (c : ChunkInfo). c.number == chunk) (chunks_of h) (recovered_info number (recovered_chunk bytes)) is
opened_stays (Accepted b place) h chunk is = any_left (λ (c : ChunkInfo). c.number == chunk) (chunks_of h) (created_info b place) is
opened_stays fact h chunk is = is

pub shut_stays : (fact : Fact) (h : History) (chunk : ℕ) → is_closed h chunk ≡ true → is_closed (fact ∷ h) chunk ≡ true
shut_stays (Found other stream name bytes) h chunk is = elim (cases_Bool (other == chunk)) [ inl same ↦ rw same refl | inr differs ↦ rw differs is ]
shut_stays (ChunkClosed other) h chunk is = elim (cases_Bool (other == chunk)) [ inl same ↦ rw same refl | inr differs ↦ rw differs is ]
shut_stays fact h chunk is = is

one_number : (number chunk : ℕ) (found : Option Chunk) → has_number chunk (recovered_info number found) ≡ true → number ≡ chunk
one_number number chunk None is = absurd (cc is)
one_number number chunk (Some found) is = elim (cases_Bool (number == chunk)) [ inl same ↦ eqb-true number chunk same | inr differs ↦ absurd (cc (rw differs at is)) ]

begun_below : (b : Batch) (place : Placement) (h : History) (chunk : ℕ) → MayBegin place h → has_number chunk (created_info b place) ≡ true → chunk < next h
begun_below b NoChunk h chunk may is = absurd (cc is)
begun_below b (AppendedTo other) h chunk may is = absurd (cc is)
begun_below b (NewChunk other) h chunk may is = elim (cases_Bool (other == chunk)) [
  | inl same ↦ let e : other ≡ chunk = eqb-true other chunk same in omega (arith, may, e)
  | inr differs ↦ absurd (cc (rw differs at is))
]

pub still_below : (fact : Fact) (h : History) → MayNote fact h → AreBelow h → AreBelow (fact ∷ h)
still_below (Found number stream name bytes) h may are chunk is = elim (cases_Bool (was_opened h chunk)) [
  | inl was ↦ let before : chunk < next h = are chunk was in omega (arith, before)
  | inr wasnt ↦
      let new : has_number chunk (recovered_info number (recovered_chunk bytes)) ≡ true = rw (list_any-append (λ (c : ChunkInfo). c.number == chunk) (chunks_of h) (recovered_info number (recovered_chunk bytes)), wasnt) at is in
      let e : number ≡ chunk = one_number number chunk (recovered_chunk bytes) new in
      omega (arith, e)
]
still_below (Accepted b place) h may are chunk is = elim (cases_Bool (was_opened h chunk)) [
  | inl was ↦ are chunk was
  | inr wasnt ↦ begun_below b place h chunk may (rw (list_any-append (λ (c : ChunkInfo). c.number == chunk) (chunks_of h) (created_info b place), wasnt) at is)
]
still_below (Offered other b) h may are chunk is = let before : chunk < next h = are chunk is in omega (arith, before)
still_below fact h may are chunk is = are chunk is

find_left : {X : Type 0} (f : X → Bool) (xs ys : List X) → list_any f xs ≡ true → find f (xs ++ ys) ≡ find f xs
find_left f [] ys is = absurd (cc is)
find_left f (x ∷ xs) ys is = elim (cases_Bool (f x)) [ inl here ↦ rw here refl | inr there ↦ rw there (find_left f xs ys (rw there at is)) ]

tag_same : (fact : Fact) (h : History) (chunk : ℕ) → was_opened h chunk ≡ true → tag_of_chunk (fact ∷ h) chunk ≡ tag_of_chunk h chunk
tag_same (Found number stream name bytes) h chunk is =
    ap (λ (found : Option ChunkInfo). option_map_or (λ (c : ChunkInfo). c.tag) found []) (find_left (λ (c : ChunkInfo). c.number == chunk) (chunks_of h) (recovered_info number (recovered_chunk bytes)) is)
tag_same (Accepted b place) h chunk is =
    ap (λ (found : Option ChunkInfo). option_map_or (λ (c : ChunkInfo). c.tag) found []) (find_left (λ (c : ChunkInfo). c.number == chunk) (chunks_of h) (created_info b place) is)
tag_same fact h chunk is = refl

-- what a route's flush dials for stays the same
pub aim_same : (fact : Fact) (h : History) (r : Route) → was_opened h r.chunk ≡ true → dial_target (fact ∷ h) r ≡ dial_target h r
aim_same fact h r was = λ i. record { output = r.output; tag = tag_same fact h r.chunk was i }

-- and so does what it sends for these events
pub delivers_same : (s : AllSettings) (fact : Fact) (h : History) (r : Route) (events : List Event) → was_opened h r.chunk ≡ true → delivers s (fact ∷ h) r events ≡ delivers s h r events
delivers_same s fact h r events was = ap (λ (tag : List ℕ). delivery_at (output_at s r.output) tag r events) (tag_same fact h r.chunk was)
