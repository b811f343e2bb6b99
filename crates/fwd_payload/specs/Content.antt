-- A result made from the content of a chunk.
use Rattle.std.specs.Prelude.{ℕ, List, Option, Some, None, Result, Ok, Err}
use Rattle.fwd_base.specs.declared.memory.Memory.{Memory}
use Rattle.fwd_event.specs.declared.event.Event.{Event}
use Rattle.fwd_event.specs.Event.{AreEvents}

-- something was made of the events that the bytes encode, or nothing if they encode none or memory runs out
abbrev pub MadeOf : {T : Type 0} → List ℕ → (List Event → T → Type 0) → Result (Option T) Memory → Type 0
MadeOf content Is (Ok (Some made)) = (events : List Event) × AreEvents events content × Is events made
MadeOf content Is (Ok None) = (events : List Event) → AreEvents events content → ⊥
MadeOf content Is (Err memory) = Unit {0}
