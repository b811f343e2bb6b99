-- The event that bytes start with.
use Rattle.std.specs.Prelude.{◌≡◌, ℕ, List, Some}
use Rattle.fwd_value.specs.Val.{Val}
use Rattle.fwd_msgpack.specs.DecodeAnswers.{EncodesPrefix}
use Rattle.fwd_event.specs.declared.event.Event.{Event}
use Rattle.fwd_event.specs.Event.{event_of}

-- the first n bytes encode the event
abbrev pub StartsWithEvent : Event → ℕ → List ℕ → Type 0
StartsWithEvent e n b = (v : Val) × EncodesPrefix v n b × (event_of v ≡ Some e)

-- the bytes don't start with an event
abbrev pub StartsWithNoEvent : List ℕ → Type 0
StartsWithNoEvent b = (e : Event) (n : ℕ) → StartsWithEvent e n b → ⊥
