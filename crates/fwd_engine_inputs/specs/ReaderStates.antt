-- Contract views of the readers of messages, by connection.
use Rattle.std.specs.Prelude.{◌≡◌, ◌≤◌, ◌==◌, ℕ, Bool, false, List, [], sum_by, Option, Some, None, if◌then◌else◌}
use Rattle.std.specs.Ordering.{nat_cmp}
use Rattle.std.specs.Int.{bit_at}
use Rattle.std.specs.BTreeMap.{get, values}
use Rattle.fwd_base.specs.declared.ids.ConnId.{ConnId}
use Rattle.fwd_wire.specs.Stream.{Ending, waiting}
use Rattle.fwd_wire.specs.Decode.{messages_in}
use Rattle.fwd_in_forward.specs.Conn.{unfinished_bytes}
use Rattle.fwd_engine_inputs.specs.declared.message_readers.MessageReaders.{MessageReaders}

-- the rest of a stream after its whole messages
unfoldable pub ending : List ℕ → Ending
ending stream = (messages_in stream).ending

abbrev pub or_new_reader : Option Ending → Ending
or_new_reader (Some wire) = wire
or_new_reader None = waiting []

-- the rest that the reader of a connection keeps; without a reader the stream is at its start
abbrev pub reader_in : MessageReaders → ℕ → Ending
reader_in w conn = or_new_reader (get nat_cmp w.wires conn)

-- how many bytes all unfinished messages have together
abbrev pub all_unfinished : MessageReaders → ℕ
all_unfinished w = sum_by unfinished_bytes (values w.wires)

-- whether the input of a connection is paused
abbrev pub has_paused_input : ℕ → Option ℕ → Bool
has_paused_input paused (Some input) = bit_at paused input == 1
has_paused_input paused None = false

-- the bytes of a connection's unfinished message, if its input isn't paused
abbrev pub droppable_bytes : ℕ → (ℕ → Option ℕ) → (ℕ → Ending) → ℕ → ℕ
droppable_bytes paused input_by reader_by conn =
    if has_paused_input paused (input_by conn) then 0 else unfinished_bytes (reader_by conn)

-- the connection with the most bytes; `None` if no connection has any
abbrev pub IsLargest : (ℕ → ℕ) → Option ConnId → Type 0
IsLargest bytes None = (conn : ℕ) → bytes conn ≡ 0
IsLargest bytes (Some largest) = (1 ≤ bytes largest.0) × ((conn : ℕ) → bytes conn ≤ bytes largest.0)
