-- What the parser of events says of bytes.
use Rattle.std.proofs.Common.{◌≡◌, ℕ, List, Ok, Err, refl, inl, inr, ◌⊎◌, ◌↔◌}
use Rattle.fwd_event.specs.declared.event.Event.{Event}
use Rattle.fwd_event.specs.declared.errors.EventErr.{EventErr}
use Rattle.fwd_event.specs.declared.errors.EventErr.TheVariants.{Short, Unused, TooDeep, Memory, NotAnEvent}
use Rattle.fwd_chunk.specs.declared.refusal.NotAChunk.{NotAChunk}
use Rattle.fwd_chunk.specs.declared.refusal.NotAChunk.TheVariants.{BadEvents, Memory as chunk_memory}
use Rattle.fwd_event.specs.Event.{AreEvents}
use Rattle.fwd_event.specs.ReadAnswers.{EventsRead, IsAnswer, IsMemory}

-- the parser gives this answer
abbrev pub Answers : EventsRead → List ℕ → Type 0
Answers r b = (answer : EventsRead) → IsMemory r ⊎ ((r ≡ answer) ↔ IsAnswer answer b)

pub events_read : (events : List Event) (b : List ℕ) → Answers (Ok events) b → AreEvents events b
events_read events b h = elim (h (Ok events)) [ inl m ↦ absurd m | inr i ↦ i.0 refl ]

is_memory : (x : EventErr) → IsMemory (Err x) → x ≡ Memory
is_memory Short m = absurd m
is_memory (Unused at) m = absurd m
is_memory (TooDeep at) m = absurd m
is_memory Memory m = refl
is_memory (NotAnEvent at) m = absurd m

no_events : (x : EventErr) (b : List ℕ) → (x ≡ Memory → ⊥) → Answers (Err x) b → (events : List Event) → AreEvents events b → ⊥
no_events x b never h events are = elim (h (Ok events)) [
  | inl m ↦ never (is_memory x m)
  | inr i ↦ let no : Err x ≡ Ok events = i.1 are in absurd (cc no)
]

-- what a refusal of the parser says
pub counts_none : (x : EventErr) (r : NotAChunk) (b : List ℕ) → Answers (Err x) b → (r ≡ chunk_memory) ⊎ ((r ≡ BadEvents) × (x ≡ Memory → ⊥))
    → (r ≡ chunk_memory) ⊎ ((r ≡ BadEvents) × ((events : List Event) → AreEvents events b → ⊥))
counts_none x r b h (inl is) = inl is
counts_none x r b h (inr is) = inr (is.0, no_events x b is.1 h)
