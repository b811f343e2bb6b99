-- The answers of `read_events`.
use Rattle.std.specs.Prelude.{◌≡◌, ℕ, ◌+◌, ◌<◌, List, length, take, drop, Some, None, Result, Ok, Err}
use Rattle.fwd_value.specs.Val.{Val}
use Rattle.fwd_msgpack.specs.DecodeAnswers.{EncodesPrefix, IsProperPrefix, FailsAtForm, IsUnused, IsListOrMap}
use Rattle.fwd_event.specs.declared.event.Event.{Event}
use Rattle.fwd_event.specs.declared.errors.EventErr.{EventErr}
use Rattle.fwd_event.specs.declared.errors.EventErr.TheVariants.{Short, Unused, TooDeep, Memory, NotAnEvent}
use Rattle.fwd_event.specs.Event.{event_of, AreEvents}

abbrev pub EventsRead : Type 0
EventsRead = Result (List Event) EventErr

-- the first p bytes are events, and more bytes follow them
pub record EventsBefore (p : ℕ) (b : List ℕ) : Type 0 where
  pub events : List Event
  pub are : AreEvents events (take p b)
  pub within : p < length b

-- the error of bytes at offset p that begin with no event
abbrev pub FailsAt : EventErr → ℕ → List ℕ → Type 0
FailsAt Short p b = IsProperPrefix b
FailsAt (Unused at) p b = (n : ℕ) × FailsAtForm IsUnused n b × (at ≡ p + n)
FailsAt (TooDeep at) p b = (n : ℕ) × FailsAtForm IsListOrMap n b × (at ≡ p + n)
FailsAt (NotAnEvent at) p b = (v : Val) × (n : ℕ) × EncodesPrefix v n b × (event_of v ≡ None) × (at ≡ p)
FailsAt Memory p b = ⊥

-- the outcome at offset p: an event and its length in bytes, or an error
abbrev pub OutcomeAt : ℕ → List ℕ → Result (Event × ℕ) EventErr → Type 0
OutcomeAt p b (Ok x) = (v : Val) × EncodesPrefix v x.1 b × (event_of v ≡ Some x.0)
OutcomeAt p b (Err Memory) = Unit {0}
OutcomeAt p b (Err e) = FailsAt e p b

-- the answer for these bytes: their events, or the first error
abbrev pub IsAnswer : EventsRead → List ℕ → Type 0
IsAnswer (Ok events) b = AreEvents events b
IsAnswer (Err e) b = (p : ℕ) × EventsBefore p b × FailsAt e p (drop p b)

-- memory was out
abbrev pub IsMemory : EventsRead → Type 0
IsMemory (Ok events) = ⊥
IsMemory (Err Memory) = Unit {0}
IsMemory (Err _) = ⊥
