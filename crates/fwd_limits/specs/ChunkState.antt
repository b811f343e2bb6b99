-- The state of chunks towards an output.
use Rattle.std.specs.Prelude.{ℕ, Bool, ◌&&◌, ◌==◌, not, if◌then◌else◌}
use Rattle.std.specs.Int.{bit_at}
use Rattle.fwd_base.specs.declared.ids.ChunkId.{ChunkId}
use Rattle.fwd_base.specs.declared.ids.OutputId.{OutputId}
use Rattle.fwd_table.specs.Row.{Row}
use Rattle.fwd_table.specs.RowSeen.{RowSeen}
use Rattle.fwd_table.specs.Usage.{in_file, is_file, is_waiting}
use Rattle.fwd_limits.specs.declared.chunk_state.ChunkState.{ChunkState}

-- the state of a chunk towards an output
abbrev pub state_of : OutputId → Row → ChunkState
state_of output row =
    record { chunk = row.chunk; size = row.size; is_file = in_file row; is_waiting = is_waiting output row }

-- the same from the public view of its row
abbrev pub state_in_row : OutputId → RowSeen → ChunkState
state_in_row output seen = record {
  chunk = seen.chunk;
  size = seen.size;
  is_file = is_file seen.home;
  is_waiting = seen.shut && ((bit_at seen.owed output.0 == 1) && not (bit_at seen.flying output.0 == 1));
}

-- whether it waits in a file
abbrev pub waits_in_file : ChunkState → Bool
waits_in_file look = look.is_file && look.is_waiting

-- whether it waits in a file and isn't this chunk
abbrev pub waits_beside : ChunkId → ChunkState → Bool
waits_beside chunk look = look.is_file && (look.is_waiting && not (look.chunk.0 == chunk.0))

-- how many bytes of it wait in a file
abbrev pub waiting_size : ChunkState → ℕ
waiting_size look = if waits_in_file look then look.size else 0
