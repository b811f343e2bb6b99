-- The payload of a chunk: the texts of its events, concatenated.
use Rattle.std.specs.Prelude.{ℕ, ◌-◌, List, ◌++◌, length, codes, decimal, replicate}
use Rattle.std.specs.List.{flat_map}
use Rattle.fwd_value.specs.Val.{entries_of, mapping}
use Rattle.fwd_json.specs.declared.floats.Floats.{Floats}
pub use Rattle.fwd_json.specs.declared.floats.PayloadForm.{PayloadForm}
use Rattle.fwd_json.specs.Text.{json, more_pairs}
use Rattle.fwd_msgpack.specs.Canonical.{canonical}
use Rattle.fwd_base.specs.declared.output_options.Form.{Form}
use Rattle.fwd_base.specs.declared.output_options.Form.TheVariants.{JsonLines, OutFile, MsgPack}
use Rattle.fwd_event.specs.declared.event.Event.{Event}
use Rattle.fwd_event.specs.Event.{event_val}

-- at least nine digits, with leading zeros
abbrev pub nanoseconds : ℕ → List ℕ
nanoseconds n = replicate (9 - length (decimal n)) 48 ++ decimal n

-- a time in seconds, with its nanoseconds after a dot
abbrev pub time_text : ℕ → ℕ → List ℕ
time_text sec nsec = decimal sec ++ codes "." ++ nanoseconds nsec

-- {"date":TIME
abbrev pub date_text : ℕ → ℕ → List ℕ
date_text sec nsec = codes "{\"date\":" ++ time_text sec nsec

-- {"date":TIME,"key":value, ..} and a line feed
abbrev pub json_line : Floats → Event → List ℕ
json_line floats e = date_text e.sec e.nsec ++ more_pairs floats (entries_of e.body) ++ codes "}\n"

-- TAG: [TIME, and a space
abbrev pub tag_text : List ℕ → ℕ → ℕ → List ℕ
tag_text tag sec nsec = tag ++ codes ": [" ++ time_text sec nsec ++ codes ", "

-- TAG: [TIME, BODY] and a line feed
abbrev pub tagged_line : Floats → List ℕ → Event → List ℕ
tagged_line floats tag e =
    tag_text tag e.sec e.nsec ++ json floats (mapping (entries_of e.body)) ++ codes "]\n"

abbrev pub record_by : Form → Floats → List ℕ → Event → List ℕ
record_by JsonLines floats tag e = json_line floats e
record_by OutFile floats tag e = tagged_line floats tag e
record_by MsgPack floats tag e = canonical (event_val e)

-- the text of an event of a tag
abbrev pub record_of : PayloadForm → List ℕ → Event → List ℕ
record_of form tag e = record_by form.form form.floats tag e

-- the payload for events of a tag
abbrev pub payload_of : PayloadForm → List ℕ → List Event → List ℕ
payload_of form tag events = flat_map (record_of form tag) events
