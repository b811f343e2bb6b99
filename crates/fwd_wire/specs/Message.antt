-- Which values are messages, and what they say (Forward Protocol v1; section names in quotes).
use Rattle.std.specs.Prelude.{◌≡◌, ℕ, Bool, true, false, ◌&&◌, nat_lt, nat_le, List, [], ◌∷◌, length, codes, Option, Some, None, option_map, if◌then◌else◌}
use Rattle.std.specs.Str.{is_utf8}
use Rattle.fwd_base.specs.Limits.{longest_tag}
use Rattle.fwd_value.specs.Val.{Val, nil, text, bin, list, mapping, Vals, no_vals, val}
use Rattle.fwd_value.specs.Keys.{Record, is_text, key}
use Rattle.fwd_event.specs.declared.event.Event.{Event}
use Rattle.fwd_event.specs.Event.{pairs_of, event_of, AreEvents}

-- what a message says: nothing, or events with a tag, and the chunk to acknowledge
pub data MessageContent : Type 0 where
  nothing : MessageContent
  batch : List ℕ → List Event → Option Val → MessageContent

-- the result for a value
pub data Verdict : Type 0 where
  says : MessageContent → Verdict
  compressed : Verdict
  no_message : Verdict

-- the events of a message: the time and the record of one event, events in a list, or the bytes of events
pub data Carried : Type 0 where
  one : Val → Val → Carried
  many : Vals → Carried
  packed : List ℕ → Carried

-- the parts of a value as a message: nil has none; a tag, carried events and an option; or it isn't a
-- message
pub data Parts : Type 0 where
  empty : Parts
  tagged : List ℕ → Carried → Record → Parts
  unfit : Parts

-- "Grammar", tag: a text of 1 to 1,024 bytes; a bin is taken too
abbrev pub is_tag : List ℕ → Bool
is_tag b = nat_lt 0 (length b) && (nat_le (length b) longest_tag && is_utf8 b)

abbrev pub tag_of : Val → Option (List ℕ)
tag_of (text b) = if is_tag b then Some b else None
tag_of (bin b) = if is_tag b then Some b else None
tag_of _ = None

-- "Option": a map; nil stands for an empty one
abbrev pub option_of : Val → Option Record
option_of nil = Some []
option_of (mapping es) = Some (pairs_of es)
option_of _ = None

-- the key `chunk`
abbrev pub chunk_key : List ℕ
chunk_key = codes "chunk"

-- The key `compressed`, and its value `text`. A bin with these bytes counts as compressed.
abbrev pub compressed_key : List ℕ
compressed_key = codes "compressed"

abbrev pub text_word : List ℕ
text_word = codes "text"

-- the value of the first pair of a key
abbrev pub option_value : Record → List ℕ → Option Val
option_value o k = option_map (λ p. p.1) (key o k)

-- "CompressedPackedForward Mode": entries are compressed unless the option says `text` or nothing
abbrev pub is_plain_word : Option Val → Bool
is_plain_word None = true
is_plain_word (Some v) = is_text text_word v

abbrev pub is_plain : Record → Bool
is_plain o = is_plain_word (option_value o compressed_key)

-- a tag, carried events and an option
abbrev pub tagged_by : Option (List ℕ) → Option Record → Carried → Parts
tagged_by (Some t) (Some o) c = tagged t c o
tagged_by _ _ c = unfit

-- an option may come last
abbrev pub with_option : Val → Carried → Vals → Parts
with_option tag c no_vals = tagged_by (tag_of tag) (Some []) c
with_option tag c (val o no_vals) = tagged_by (tag_of tag) (option_of o) c
with_option tag c os = unfit

-- "Message Mode": after the time comes a record
abbrev pub with_time : Val → Val → Vals → Parts
with_time tag time (val body vs) = with_option tag (one time body) vs
with_time tag time no_vals = unfit

-- the second member decides the mode
abbrev pub in_mode : Val → Val → Vals → Parts
-- "Forward Mode"
in_mode tag (list es) vs = with_option tag (many es) vs
-- "PackedForward Mode"
in_mode tag (text b) vs = with_option tag (packed b) vs
in_mode tag (bin b) vs = with_option tag (packed b) vs
in_mode tag time vs = with_time tag time vs

abbrev pub parts_of : Val → Parts
parts_of nil = empty
parts_of (list (val tag (val second vs))) = in_mode tag second vs
parts_of _ = unfit

abbrev pub in_front : Option Event → Option (List Event) → Option (List Event)
in_front (Some e) (Some es) = Some (e ∷ es)
in_front _ _ = None

-- "Forward Mode": each entry is an event
abbrev pub events_of : Vals → Option (List Event)
events_of no_vals = Some []
events_of (val v vs) = in_front (event_of v) (events_of vs)

abbrev pub Carries : Carried → List Event → Type 0
-- "Message Modes": a time and a record are one event
Carries (one time body) es = in_front (event_of (list (val time (val body no_vals)))) (Some []) ≡ Some es
Carries (many vs) es = events_of vs ≡ Some es
-- "PackedForward Mode": entries one after another
Carries (packed b) es = AreEvents es b

-- a batch of the carried events, or no message if they aren't events
abbrev pub CarriedSays : List ℕ → Option Val → Carried → Verdict → Type 0
CarriedSays tag chunk c (says (batch t es k)) = (t ≡ tag) × (k ≡ chunk) × Carries c es
CarriedSays tag chunk c no_message = (es : List Event) → Carries c es → ⊥
CarriedSays tag chunk c _ = ⊥

-- Compressed entries are refused before they are read. A bad tag or option is `no_message`, also with
-- `compressed`.
abbrev pub PlainSays : Bool → List ℕ → Option Val → Carried → Verdict → Type 0
PlainSays true tag chunk c v = CarriedSays tag chunk c v
PlainSays false tag chunk c v = v ≡ compressed

abbrev pub PartsSay : Parts → Verdict → Type 0
PartsSay empty v = v ≡ says nothing
PartsSay (tagged t c o) v = PlainSays (is_plain o) t (option_value o chunk_key) c v
PartsSay unfit v = v ≡ no_message

-- what a value says as a message
abbrev pub MessageSays : Val → Verdict → Type 0
MessageSays m v = PartsSay (parts_of m) v
