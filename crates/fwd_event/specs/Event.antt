-- Which values are events, and which bytes are lists of events (Forward Protocol v1, "Event Modes"; Fluent
-- Bit's log event format).
use Rattle.std.specs.Prelude.{◌≡◌, ℕ, zero, ◌-◌, ◌≤◌, nat_lt, ◌==◌, if◌then◌else◌, pos, List, [], ◌∷◌, ◌++◌, length, take, drop, Option, Some, None}
use Rattle.std.specs.Int.{w32, to_be_bytes, from_be_bytes}
use Rattle.fwd_base.specs.Limits.{deepest}
use Rattle.fwd_value.specs.Val.{Val, whole, ext, list, mapping, no_vals, val, Entries, no_entries, entry, entries_of}
use Rattle.fwd_value.specs.Limits.{nesting, LengthsFit}
use Rattle.fwd_msgpack.specs.Encodings.{Encodes}
use Rattle.fwd_event.specs.declared.event.Event.{Event}

-- seconds and nanoseconds
abbrev pub Timestamp : Type 0
Timestamp = ℕ × ℕ

-- ext type 0 of 8 bytes: seconds and nanoseconds, each 32 bits, big-endian
abbrev pub event_time : List ℕ → Option Timestamp
event_time bytes =
    if length bytes == 8 then Some (from_be_bytes w32 (take 4 bytes), from_be_bytes w32 (drop 4 bytes))
    else None

-- the time that a value encodes: whole seconds of 32 bits, or an EventTime
abbrev pub time_of : Val → Option Timestamp
time_of (whole (pos n)) = if nat_lt n 4294967296 then Some (n, 0) else None
time_of (ext (pos zero) bytes) = event_time bytes
time_of _ = None

-- the pairs of a map
abbrev pub pairs_of : Entries → List (Val × Val)
pairs_of no_entries = []
pairs_of (entry k v es) = (k, v) ∷ pairs_of es

-- an event, if there is a time
abbrev pub event_at : Option Timestamp → Entries → Entries → Option Event
event_at None meta body = None
event_at (Some moment) meta body =
    Some (record { sec = moment.0; nsec = moment.1; meta = pairs_of meta; body = pairs_of body })

-- the event of a header and a record; a header is a list of a time and a map of metadata, or a time alone
abbrev pub event_with_header : Val → Entries → Option Event
event_with_header (list (val time (val (mapping meta) no_vals))) body = event_at (time_of time) meta body
event_with_header time body = event_at (time_of time) no_entries body

-- the event of a value: a list of a header and a map
abbrev pub event_of : Val → Option Event
event_of (list (val head (val (mapping body) no_vals))) = event_with_header head body
event_of _ = None

-- the bytes are encodings of these events, one after another, none nested too deep
abbrev pub AreEvents : List Event → List ℕ → Type 0
AreEvents [] b = b ≡ []
AreEvents (e ∷ es) b =
    (v : Val) × (front back : List ℕ) × (b ≡ front ++ back) × Encodes v front × (nesting v ≤ deepest)
    × (event_of v ≡ Some e) × AreEvents es back

-- the longest prefix of the bytes that is a list of events has these events and n bytes
pub record IsWholePrefix (events : List Event) (n : ℕ) (b : List ℕ) : Type 0 where
  pub within : n ≤ length b
  pub are : AreEvents events (take n b)
  pub longest : (m : ℕ) (others : List Event) → m ≤ length b → AreEvents others (take m b) → m ≤ n

-- the value that is written for an event: a list of the list of an EventTime and the metadata, and the
-- record
abbrev pub event_val : Event → Val
event_val e =
    let time = ext (pos zero) (to_be_bytes w32 e.sec ++ to_be_bytes w32 e.nsec) in
    list (val (list (val time (val (mapping (entries_of e.meta)) no_vals)))
    (val (mapping (entries_of e.body)) no_vals))

-- the event can be encoded: its record is one level deep in it and its metadata two, and each length is
-- below 2^32
pub record EventFits (e : Event) : Type 0 where
  pub meta_nested : nesting (mapping (entries_of e.meta)) ≤ deepest - 2
  pub body_nested : nesting (mapping (entries_of e.body)) ≤ deepest - 1
  pub meta_lengths : LengthsFit (mapping (entries_of e.meta))
  pub body_lengths : LengthsFit (mapping (entries_of e.body))
