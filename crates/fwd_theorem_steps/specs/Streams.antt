-- The bytes that come over connections.
use Rattle.std.specs.Prelude.{ℕ, ◌==◌, ◌&&◌, Bool, false, if◌then◌else◌, List, [], ◌∷◌, ◌++◌, Option, Some, None}
use Rattle.fwd_outside.specs.declared.happening.Happening.TheVariants as happening
use Rattle.fwd_settings.specs.declared.settings_types.InputKind.{InputKind}
use Rattle.fwd_settings.specs.declared.settings_types.InputKind.TheVariants as input_kind
use Rattle.fwd_model.specs.Fact.{Fact, History, Stream, LineStream, MessageStream, Happened, Disconnected}

-- the bytes that a fact brings over a connection of an input; the standard input's is connection 0
abbrev pub brought_over : ℕ → ℕ → Fact → List ℕ
brought_over input conn (Happened (happening.Piece i c bytes)) =
    if i.0 == input && c.0 == conn then bytes else []
brought_over input conn fact = []

-- all of them, in the order in which they came
abbrev pub came_over : ℕ → ℕ → History → List ℕ
came_over input conn [] = []
came_over input conn (fact ∷ h) = came_over input conn h ++ brought_over input conn fact

-- whether a fact ends a connection of an input: its peer leaves, or the run drops it
abbrev pub ends_connection : ℕ → ℕ → Fact → Bool
ends_connection input conn (Happened (happening.Gone i c)) = c.0 == conn && i.0 == input
ends_connection input conn (Disconnected c) = c == conn
ends_connection input conn fact = false

-- whether a fact is the end of this standard input
abbrev pub is_input_end : ℕ → Fact → Bool
is_input_end input (Happened (happening.InputEnd i)) = i.0 == input
is_input_end input fact = false

-- how a connection of an input with peers is read: as lines, or as messages
abbrev pub stream_to : InputKind → ℕ → Option Stream
stream_to (input_kind.Tcp host port) conn = Some (LineStream conn)
stream_to (input_kind.Forward host port) conn = Some (MessageStream conn)
stream_to other conn = None
