-- What contracts see of readers and connections, by number.
use Rattle.std.specs.Prelude.{ℕ, [], Option, Some, None}
use Rattle.std.specs.Ordering.{nat_cmp}
use Rattle.std.specs.BTreeMap.{get}
use Rattle.fwd_frames.specs.Lines.{Kept, kept}
use Rattle.fwd_frames.specs.declared.connections.Connections.{Connections}
use Rattle.fwd_frames.specs.declared.readers.Readers.{Readers}

abbrev pub or_initial : Option Kept → Kept
or_initial (Some reader) = reader
or_initial None = kept []

-- the state of the reader of a stream; without a reader, that at the beginning
abbrev pub reader_state : Readers → ℕ → Kept
reader_state r number = or_initial (get nat_cmp r.readers number)

-- the input of a connection
abbrev pub conn_input : Connections → ℕ → Option ℕ
conn_input c conn = get nat_cmp c.inputs conn
