-- The parts of a message as its bytes have them.
use Rattle.std.specs.Prelude.{◌≡◌, ℕ, ◌+◌, ◌-◌, ◌≤◌, List, [], ◌++◌, length, take, All, true, Option, Some}
use Rattle.fwd_base.specs.Limits.{deepest}
use Rattle.fwd_value.specs.Val.{Val, text, bin, list, Vals, no_vals, val}
use Rattle.fwd_value.specs.Keys.{Record}
use Rattle.fwd_value.specs.Limits.{nesting, nestings, value_count}
use Rattle.fwd_msgpack.specs.Encodings.{EncodesAll}
use Rattle.fwd_msgpack.specs.Heads.{StartsWith, StartsWithList}
use Rattle.fwd_event.specs.declared.event.Event.{Event}
use Rattle.fwd_event.specs.Event.{Timestamp, time_of, event_of, AreEvents}
use Rattle.fwd_event.specs.EventPrefix.{encodings, IsWritable}
use Rattle.fwd_wire.specs.Message.{tag_of, option_of, in_front, events_of, is_plain, option_value, chunk_key}

-- a value that carries these events in a message: a list of them, or the bytes of them
abbrev pub CarriesEvents : Val → List Event → Type 0
CarriesEvents (list vs) es = events_of vs ≡ Some es
CarriesEvents (text b) es = AreEvents es b
CarriesEvents (bin b) es = AreEvents es b
CarriesEvents _ es = ⊥

-- the members carry these events in a message: a list of them or their bytes, or the time and the record of
-- one
abbrev pub CarryEvents : Vals → List Event → Type 0
CarryEvents (val v no_vals) es = CarriesEvents v es
CarryEvents (val time (val body no_vals)) es =
    (moment : Timestamp) × (time_of time ≡ Some moment)
    × (in_front (event_of (list (val time (val body no_vals)))) (Some []) ≡ Some es)
CarryEvents _ es = ⊥

-- the value is this option, and not nested too deep for a member of a message
abbrev pub IsOption : Val → Record → Type 0
IsOption v o = (option_of v ≡ Some o) × (nesting v ≤ deepest - 1)

-- the values after the events of a message are this option
abbrev pub AreOption : Vals → Record → Type 0
AreOption no_vals o = o ≡ []
AreOption (val v no_vals) o = option_of v ≡ Some o
AreOption _ o = ⊥

-- the bytes are a tag and then the rest
abbrev pub StartsWithTag : List ℕ → List ℕ → List ℕ → Type 0
StartsWithTag tag rest b =
    (v : Val) × (tag_of v ≡ Some tag) × (nesting v ≤ deepest - 1) × StartsWith v rest b

-- the bytes are the header of a list, a tag and then the rest, and the list has so many members after its
-- first two
abbrev pub StartsWithHead : ℕ → List ℕ → List ℕ → List ℕ → Type 0
StartsWithHead members tag rest b =
    (behind : List ℕ) × StartsWithList (members + 2) behind b × StartsWithTag tag rest behind

-- the bytes are so many members that carry these events in a message, and then the rest
pub record StartsWithEvents (carriers : ℕ) (es : List Event) (rest b : List ℕ) : Type 0 where
  pub values : Vals
  pub count : value_count values ≡ carriers
  pub carry : CarryEvents values es
  pub nested : nestings values ≤ deepest - 1
  pub front : List ℕ
  pub parts : b ≡ front ++ rest
  pub encoded : EncodesAll values front

-- the n events that so many members at the start of the bytes carry in a message were written in their
-- stored encodings
pub record CopiesEvents (n carriers : ℕ) (rest b old new : List ℕ) : Type 0 where
  pub events : List Event
  pub carried : StartsWithEvents carriers events rest b
  pub many : length events ≡ n
  pub writable : All IsWritable events
  pub written : new ≡ old ++ encodings events

-- an option asks to acknowledge this chunk, and says that the entries aren't compressed
abbrev pub AsksFor : Option Val → Record → Type 0
AsksFor chunk o = (is_plain o ≡ true) × (chunk ≡ option_value o chunk_key)

-- the first n bytes are so many values, and these are this option
pub record StartsWithOption (members : ℕ) (option : Record) (n : ℕ) (b : List ℕ) : Type 0 where
  pub values : Vals
  pub count : value_count values ≡ members
  pub are : AreOption values option
  pub nested : nestings values ≤ deepest - 1
  pub within : n ≤ length b
  pub encoded : EncodesAll values (take n b)
