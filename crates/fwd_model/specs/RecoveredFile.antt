-- What recovery reads from the bytes of a chunk's file.
use Rattle.std.specs.Prelude.{ℕ, ◌==◌, Bool, false, if◌then◌else◌, List, [], Option, Some, None, Ok, Err}
use Rattle.std.specs.List.{list_any}
use Rattle.std.specs.Option.{option_map_or}
use Rattle.std.specs.Str.{bytes_eq}
use Rattle.fwd_event.specs.declared.event.Event.{Event}
use Rattle.fwd_event.specs.EventPrefix.{events_in}
use Rattle.fwd_chunk.specs.declared.chunk.Chunk.{Chunk}
use Rattle.fwd_chunk.specs.Format.{ChunkRead}
use Rattle.fwd_chunk.specs.FormatFunction.{stands}

-- a recovered chunk, if it has an event at least
abbrev pub nonempty_chunk : ChunkRead → Option Chunk
nonempty_chunk (Ok chunk) = if chunk.events == 0 then None else Some chunk
nonempty_chunk (Err refusal) = None

-- the chunk that the bytes encode, if it has an event at least
abbrev pub recovered_chunk : List ℕ → Option Chunk
recovered_chunk bytes = nonempty_chunk (stands bytes)

-- its content, and the events of that content
abbrev pub recovered_content : List ℕ → List ℕ
recovered_content bytes = option_map_or (λ (chunk : Chunk). chunk.content) (recovered_chunk bytes) []

abbrev pub recovered_events : List ℕ → List Event
recovered_events bytes = (events_in (recovered_content bytes)).0

-- whether the file marks the output of this name as done
abbrev pub is_marked_done : List ℕ → Option Chunk → Bool
is_marked_done name None = false
is_marked_done name (Some chunk) = list_any (λ other. bytes_eq other name) chunk.done
