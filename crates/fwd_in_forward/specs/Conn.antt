-- What a connection keeps of its stream.
use Rattle.std.specs.Prelude.{ℕ, ◌<◌, Bool, true, false, List, [], length, map, Option, Some, None}
use Rattle.fwd_base.specs.Limits.{longest_message}
use Rattle.fwd_msgpack.specs.declared.scan.Scan.{Scan}
use Rattle.fwd_msgpack.specs.ScanState.{IsFed}
use Rattle.fwd_wire.specs.Message.{MessageContent}
use Rattle.fwd_wire.specs.Representation.{content_of}
use Rattle.fwd_wire.specs.declared.message.Message.{Message}
use Rattle.fwd_wire.specs.declared.fault.ConnFault.{ConnFault}
use Rattle.fwd_wire.specs.Answer.{IsAnswer, short}
use Rattle.fwd_wire.specs.Stream.{Ending, waiting, broken, Breaks}
use Rattle.fwd_in_forward.specs.declared.conn.Known.{Known}
use Rattle.fwd_in_forward.specs.declared.conn.Known.TheVariants as known

abbrev pub ending_of : List ℕ → Option ConnFault → Ending
ending_of rest None = waiting rest
ending_of rest (Some fault) = broken fault

-- the fault, if the stream is broken
abbrev pub fault_of : Ending → Option ConnFault
fault_of (waiting rest) = None
fault_of (broken fault) = Some fault

-- how many bytes there are of a message that isn't whole yet
abbrev pub unfinished_bytes : Ending → ℕ
unfinished_bytes (waiting rest) = length rest
unfinished_bytes (broken fault) = 0

-- whether nothing is kept, as at the beginning of a stream
abbrev pub is_start : Ending → Bool
is_start (waiting []) = true
is_start _ = false

-- the scan, if there is one, was fed the rest, and a message may be longer
abbrev pub Scans : Option Scan → List ℕ → Type 0
Scans None rest = Unit {0}
Scans (Some scan) rest = IsFed scan rest × (length rest < longest_message)

-- what is known of the bytes after the last whole message
abbrev pub KnownIs : List ℕ → Known → Type 0
KnownIs b known.Waits = IsAnswer b short
KnownIs b (known.Breaks fault) = Breaks fault b
KnownIs b known.Open = Unit {0}

-- what messages say
abbrev pub all_content : List Message → List MessageContent
all_content ms = map content_of ms
