-- What bytes say, computed by reading them from left to right.
use Rattle.std.specs.Prelude.{ℕ, zero, suc, ◌-◌, nat_lt, if◌then◌else◌, List, [], ◌∷◌, length, drop, Option, Some, None, Ok, Err}
use Rattle.fwd_base.specs.Limits.{deepest, longest_message}
use Rattle.fwd_value.specs.Val.{Val, list, no_vals, val}
use Rattle.fwd_msgpack.specs.declared.fault.FormatErr.TheVariants.{Short, Unused, TooDeep}
use Rattle.fwd_msgpack.specs.Decoder.{Read, value_at}
use Rattle.fwd_event.specs.declared.event.Event.{Event}
use Rattle.fwd_event.specs.Event.{event_of}
use Rattle.fwd_wire.specs.declared.fault.ConnFault.TheVariants.{NotAMessage, Compressed, TooLong}
use Rattle.fwd_wire.specs.Message.{MessageContent, nothing, batch, Verdict, says, compressed, no_message, Carried, one, many, packed, Parts, empty, tagged, unfit, parts_of, is_plain, option_value, chunk_key, in_front, events_of}
use Rattle.fwd_wire.specs.Answer.{Answer, message, short, not_a_message, is_compressed, too_long, front}
use Rattle.fwd_wire.specs.Stream.{Ending, waiting, broken}

abbrev pub next_event : (List ℕ → Option (List Event)) → Read Val → Option (List Event)
next_event others (Ok x) = in_front (event_of x.0) (others x.1)
next_event others (Err f) = None

-- An event has at least one byte, so as many steps as bytes are enough.
abbrev pub events_by : ℕ → List ℕ → Option (List Event)
events_by n [] = Some []
events_by zero (c ∷ b) = None
events_by (suc n) (c ∷ b) = next_event (events_by n) (value_at deepest (c ∷ b))

-- the events that bytes encode, if they are events one after another
abbrev pub packed_events : List ℕ → Option (List Event)
packed_events b = events_by (length b) b

-- the carried events, if they are events
abbrev pub carried_events : Carried → Option (List Event)
carried_events (one time body) = in_front (event_of (list (val time (val body no_vals)))) (Some [])
carried_events (many vs) = events_of vs
carried_events (packed b) = packed_events b

abbrev pub batch_verdict : List ℕ → Option Val → Option (List Event) → Verdict
batch_verdict tag chunk (Some es) = says (batch tag es chunk)
batch_verdict tag chunk None = no_message

-- what the parts of a value say
abbrev pub verdict_of : Parts → Verdict
verdict_of empty = says nothing
verdict_of (tagged t c o) =
    if is_plain o then batch_verdict t (option_value o chunk_key) (carried_events c) else compressed
verdict_of unfit = no_message

abbrev pub value_answer : ℕ → Verdict → Answer
value_answer n (says s) = message s n
value_answer n compressed = is_compressed
value_answer n no_message = not_a_message 0

-- the answer, by how many bytes there are, how many of them are read, and what is read
abbrev pub read_answer : ℕ → ℕ → Read Val → Answer
read_answer all seen (Ok x) = value_answer (seen - length x.1) (verdict_of (parts_of x.0))
read_answer all seen (Err Short) = if nat_lt all longest_message then short else too_long
read_answer all seen (Err (Unused left)) = not_a_message (seen - left)
read_answer all seen (Err (TooDeep left)) = not_a_message (seen - left)

-- the answer to bytes
abbrev pub answer_in : List ℕ → Answer
answer_in b = read_answer (length b) (length (front b)) (value_at deepest (front b))

-- messages one after another, and how the bytes after them go on
pub record Stream : Type 0 where
  pub messages : List MessageContent
  pub ending : Ending

abbrev pub with_first : MessageContent → Stream → Stream
with_first m s = record { messages = m ∷ s.messages; ending = s.ending }

abbrev pub ends : Ending → Stream
ends e = record { messages = []; ending = e }

-- the stream, by the answer to its bytes and the stream of the rest
abbrev pub stream_by : (List ℕ → Stream) → List ℕ → Answer → Stream
stream_by others b (message m n) = with_first m (others (drop n b))
stream_by others b short = ends (waiting b)
stream_by others b (not_a_message at) = ends (broken NotAMessage)
stream_by others b is_compressed = ends (broken Compressed)
stream_by others b too_long = ends (broken TooLong)

-- A message has at least one byte, so one step more than bytes is enough.
abbrev pub stream_in : ℕ → List ℕ → Stream
stream_in zero b = ends (waiting b)
stream_in (suc n) b = stream_by (stream_in n) b (answer_in b)

-- the messages of a stream of bytes
abbrev pub messages_in : List ℕ → Stream
messages_in b = stream_in (suc (length b)) b
