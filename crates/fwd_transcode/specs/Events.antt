-- Events that were decoded, and whose stored encodings were written.
use Rattle.std.specs.Prelude.{◌≡◌, ℕ, ◌-◌, ◌≤◌, List, [], ◌∷◌, ◌++◌, length, Some, All}
use Rattle.fwd_base.specs.Limits.{deepest}
use Rattle.fwd_value.specs.Val.{Val, Vals, list, no_vals, val, vals_of}
use Rattle.fwd_value.specs.Limits.{nesting, nestings}
use Rattle.fwd_msgpack.specs.Canonical.{canonical}
use Rattle.fwd_msgpack.specs.Encodings.{EncodesAll}
use Rattle.fwd_event.specs.declared.event.Event.{Event}
use Rattle.fwd_event.specs.Event.{event_time, time_of, event_of, event_val, AreEvents}
use Rattle.fwd_event.specs.EventPrefix.{encodings, IsWritable}
use Rattle.fwd_msgpack.specs.Heads.{StartsWith}

-- the bytes are the eight bytes of an EventTime and then the rest
abbrev pub StartsWithEventTime : ℕ → ℕ → List ℕ → List ℕ → Type 0
StartsWithEventTime sec nsec rest b =
    (time : List ℕ) × (b ≡ time ++ rest) × (length time ≡ 8) × (event_time time ≡ Some (sec, nsec))

-- the bytes are an encoding of a time and then the rest
abbrev pub StartsWithTime : ℕ → ℕ → List ℕ → List ℕ → Type 0
StartsWithTime sec nsec rest b = (time : Val) × StartsWith time rest b × (time_of time ≡ Some (sec, nsec))

-- an event at the start of the bytes, whose value is nested at most d deep, was written in its stored
-- encoding
abbrev pub TranscodesEvent : ℕ → List ℕ → List ℕ → List ℕ → List ℕ → Type 0
TranscodesEvent d rest b old new =
    (e : Event) × (v : Val) × StartsWith v rest b × (nesting v ≤ d) × (event_of v ≡ Some e) × IsWritable e
    × (new ≡ old ++ canonical (event_val e))

-- the time and the record at the start of the bytes were written as their event, in its stored encoding; the
-- record is nested at most so deep that a list of both is nested at most d deep
pub record TranscodesSingle (d : ℕ) (rest b old new : List ℕ) : Type 0 where
  pub event : Event
  pub time : Val
  pub body : Val
  pub front : List ℕ
  pub parts : b ≡ front ++ rest
  pub encoded : EncodesAll (val time (val body no_vals)) front
  pub moment : time_of time ≡ Some (event.sec, event.nsec)
  pub nested : nesting body ≤ d - 1
  pub is : event_of (list (val time (val body no_vals))) ≡ Some event
  pub writable : IsWritable event
  pub written : new ≡ old ++ canonical (event_val event)

-- each of the values is the event at its place
abbrev pub AreEventsOf : List Event → Vals → Type 0
AreEventsOf [] no_vals = Unit {0}
AreEventsOf (e ∷ es) (val v vs) = (event_of v ≡ Some e) × AreEventsOf es vs
AreEventsOf _ _ = ⊥

-- a value that stands in two lists is nested at most so deep
abbrev pub deepest_entry : ℕ
deepest_entry = deepest - 2

-- n entries at the start of the bytes were written in their stored encodings
pub record TranscodesEntries (n : ℕ) (rest b old new : List ℕ) : Type 0 where
  pub events : List Event
  pub entries : List Val
  pub front : List ℕ
  pub parts : b ≡ front ++ rest
  pub encoded : EncodesAll (vals_of entries) front
  pub nested : nestings (vals_of entries) ≤ deepest_entry
  pub are : AreEventsOf events (vals_of entries)
  pub many : length events ≡ n
  pub writable : All IsWritable events
  pub written : new ≡ old ++ encodings events

-- the n events that the bytes are were written in their stored encodings
pub record TranscodesEvents (n : ℕ) (b old new : List ℕ) : Type 0 where
  pub events : List Event
  pub are : AreEvents events b
  pub many : length events ≡ n
  pub writable : All IsWritable events
  pub written : new ≡ old ++ encodings events
