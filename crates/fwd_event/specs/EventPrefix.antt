-- The events at the beginning of bytes, as a function of the bytes.
use Rattle.std.specs.Prelude.{ℕ, zero, suc, ◌-◌, ◌<◌, ◌^◌, List, [], ◌∷◌, length, Option, Some, None, Result, Ok, Err}
use Rattle.std.specs.List.{flat_map}
use Rattle.fwd_base.specs.Limits.{deepest}
use Rattle.fwd_value.specs.Val.{Val, mapping, entries_of}
use Rattle.fwd_value.specs.Limits.{IsInRange}
use Rattle.fwd_msgpack.specs.declared.fault.FormatErr.{FormatErr}
use Rattle.fwd_msgpack.specs.Canonical.{canonical}
use Rattle.fwd_msgpack.specs.Decoder.{value_at}
use Rattle.fwd_event.specs.declared.event.Event.{Event}
use Rattle.fwd_event.specs.Event.{event_of, event_val, EventFits}

-- an event and the bytes after it
abbrev pub Next : Type 0
Next = Option (Event × List ℕ)

abbrev pub with_rest : Option Event → List ℕ → Next
with_rest None rest = None
with_rest (Some e) rest = Some (e, rest)

-- the event of a decoded value, if it is one
abbrev pub next_of : Result (Val × List ℕ) FormatErr → Next
next_of (Ok x) = with_rest (event_of x.0) x.1
next_of (Err fault) = None

-- the event at the beginning of the bytes, if there is one, and the bytes after it
unfoldable pub next_in : List ℕ → Next
next_in b = next_of (value_at deepest b)

-- events, and the bytes after them
abbrev pub EventSplit : Type 0
EventSplit = List Event × List ℕ

abbrev pub with_event : Event → EventSplit → EventSplit
with_event e x = (e ∷ x.0, x.1)

-- the next event, if there is one, and the events in the rest
abbrev pub event_split_by : (List ℕ → EventSplit) → List ℕ → Next → EventSplit
event_split_by rest_of b None = ([], b)
event_split_by rest_of b (Some x) = with_event x.0 (rest_of x.1)

-- the events at the beginning, at most n
unfoldable pub event_split : ℕ → List ℕ → EventSplit
event_split zero b = ([], b)
event_split (suc n) b = event_split_by (event_split n) b (next_in b)

-- the events at the beginning of the bytes, and their length in bytes; each has at least one byte
unfoldable pub events_in : List ℕ → List Event × ℕ
events_in b = let x = event_split (length b) b in (x.0, length b - length x.1)

-- the encodings that are written for events, one after another
abbrev pub encodings : List Event → List ℕ
encodings events = flat_map (λ e. canonical (event_val e)) events

-- an event of the program that can be encoded
pub record IsWritable (e : Event) : Type 0 where
  pub sec : e.sec < 2 ^ 32
  pub nsec : e.nsec < 2 ^ 32
  pub meta : IsInRange (mapping (entries_of e.meta))
  pub body : IsInRange (mapping (entries_of e.body))
  pub fits : EventFits e
