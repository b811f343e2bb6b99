-- What is written: acknowledgements, and messages of the Forward mode (Forward Protocol v1).
use Rattle.std.specs.Prelude.{ℕ, pos, Bool, true, false, List, ◌++◌, length, codes, Option, Some, None}
use Rattle.std.specs.List.{flat_map}
use Rattle.std.specs.Int.{w32, to_be_bytes}
use Rattle.fwd_value.specs.Val.{Val, whole, text, bin, ext, list, mapping, no_vals, val, Entries, no_entries, entry, entries_of}
use Rattle.fwd_msgpack.specs.Canonical.{canonical}
use Rattle.fwd_event.specs.declared.event.Event.{Event}
use Rattle.fwd_wire.specs.Message.{chunk_key}

-- the key `ack`
abbrev pub ack_key : List ℕ
ack_key = codes "ack"

-- the key `size`
abbrev pub size_key : List ℕ
size_key = codes "size"

-- "Response": the map of `ack` and the chunk
abbrev pub ack_val : Val → Val
ack_val chunk = mapping (entry (text ack_key) chunk no_entries)

-- "EventTime Ext Format"; or whole seconds, for a peer that doesn't know it
abbrev pub time_val : Bool → Event → Val
time_val true e = whole (pos e.sec)
time_val false e = ext (pos 0) (to_be_bytes w32 e.sec ++ to_be_bytes w32 e.nsec)

-- "Entry": a time and a record
abbrev pub entry_val : Bool → Event → Val
entry_val whole_time e = list (val (time_val whole_time e) (val (mapping (entries_of e.body)) no_vals))

-- entries one after another
abbrev pub entry_bytes : Bool → List Event → List ℕ
entry_bytes whole_time es = flat_map (λ e. canonical (entry_val whole_time e)) es

-- "Option": the number of the events, and the chunk if an acknowledgement is asked for
abbrev pub chunk_entry : Option (List ℕ) → Entries
chunk_entry None = no_entries
chunk_entry (Some id) = entry (text chunk_key) (text id) no_entries

abbrev pub option_val : ℕ → Option (List ℕ) → Val
option_val n id = mapping (entry (text size_key) (whole (pos n)) (chunk_entry id))

-- "PackedForward Mode": the tag, the entries, the option
abbrev pub forward_val : List ℕ → List Event → Option (List ℕ) → Bool → Val
forward_val tag es id whole_time =
    list
    (val (text tag) (val (bin (entry_bytes whole_time es)) (val (option_val (length es) id) no_vals)))

-- the bytes of the message
abbrev pub forward_payload : List ℕ → List Event → Option (List ℕ) → Bool → List ℕ
forward_payload tag es id whole_time = canonical (forward_val tag es id whole_time)
