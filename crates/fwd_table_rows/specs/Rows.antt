-- The rows of a table: chunks with their routes, by rising chunk id.
use Rattle.std.specs.Prelude.{◌≡◌, ℕ, ◌<◌, ◌==◌, ◌&&◌, Bool, true, false, not, List, [], length, map}
use Rattle.std.specs.Prelude.{filter, find, Option, is_some, option_to_list, IsSomeAnd, IsTrue, AllPairs}
use Rattle.std.specs.Prelude.{if◌then◌else◌}
use Rattle.std.specs.List.{flat_map}
use Rattle.std.specs.Option.{option_map_or}
use Rattle.fwd_base.specs.declared.ids.ChunkId.{ChunkId}
use Rattle.fwd_base.specs.declared.ids.InputId.{InputId}
use Rattle.fwd_base.specs.declared.ids.OutputId.{OutputId}
use Rattle.fwd_outside.specs.declared.home.Home.{Home}
use Rattle.fwd_retry.specs.declared.timer.Timer.{Timer}
use Rattle.fwd_table_rows.specs.declared.route.Route.{Route}
use Rattle.fwd_table_rows.specs.declared.row.Row.{Row}
use Rattle.fwd_table_rows.specs.declared.row.RowSeen.{RowSeen}
use Rattle.fwd_table_rows.specs.Routes.{routes_to, due_at, is_to, on_output, without_output, started, stayed}
use Rattle.fwd_table_rows.specs.Routes.{retried, tries_to, mask_of, flying_of, idle_timers}

-- the rows of slots
abbrev pub rows_at : List (Option Row) → List Row
rows_at places = flat_map option_to_list places

-- ---- what a table holds

-- each row's chunk id is below those of all after it
abbrev pub ChunksRise : List Row → Type 0
ChunksRise rows = AllPairs (λ row behind. row.chunk.0 < behind.chunk.0) rows

-- whether it is the row of this chunk
abbrev pub is_row_of : ChunkId → Row → Bool
is_row_of chunk row = row.chunk.0 == chunk.0

-- the row of a chunk
abbrev pub row_at : ChunkId → List Row → Option Row
row_at chunk rows = find (is_row_of chunk) rows

-- its routes; none if there is no row
abbrev pub routes_at : ChunkId → List Row → List Route
routes_at chunk rows = option_map_or (λ row. row.routes) (row_at chunk rows) []

-- how often a route has failed; 0 if there is none
abbrev pub tries_of : ChunkId → OutputId → List Row → ℕ
tries_of chunk output rows = tries_to output (routes_at chunk rows)

-- whether a chunk has no pending route
abbrev pub owes_nothing : ChunkId → List Row → Bool
owes_nothing chunk rows = length (routes_at chunk rows) == 0

-- a chunk has a row without routes
abbrev pub IsOwedToNobody : ChunkId → List Row → Type 0
IsOwedToNobody chunk rows = IsSomeAnd (row_at chunk rows) (λ row. row.routes ≡ [])

-- a route is pending, its row is closed, and no flush of it is in flight
pub record IsIdle (chunk : ChunkId) (output : OutputId) (rows : List Row) : Type 0 where
  pub shut : IsSomeAnd (row_at chunk rows) (λ row. IsTrue row.shut)
  pub waits : IsSomeAnd (find (is_to output) (routes_at chunk rows)) (λ r. r.flying ≡ false)

-- whether a chunk has a row
abbrev pub has_row : ChunkId → List Row → Bool
has_row chunk rows = is_some (row_at chunk rows)

-- whether a row's route to an output is pending and in flight, or pending and idle
abbrev pub flies_to : OutputId → Row → Bool
flies_to output row = option_map_or (λ r. r.flying) (find (is_to output) row.routes) false

abbrev pub waits_for : OutputId → Row → Bool
waits_for output row = row.shut && option_map_or (λ r. not r.flying) (find (is_to output) row.routes) false

-- whether a route is idle
abbrev pub is_route_idle : ChunkId → OutputId → List Row → Bool
is_route_idle chunk output rows = option_map_or (waits_for output) (row_at chunk rows) false

-- how many chunks are in flight to an output
abbrev pub flights_to : OutputId → List Row → ℕ
flights_to output rows = length (filter (flies_to output) rows)

-- whether a row is pending for an output
abbrev pub is_owed_row : Row → Bool
is_owed_row row = not (length row.routes == 0)

-- the rows that are pending for an output
abbrev pub owed_rows : List Row → List Row
owed_rows rows = filter is_owed_row rows

-- the timers of a row's idle routes; none if the row isn't closed
abbrev pub timers_of_row : Row → List Timer
timers_of_row row = if row.shut then idle_timers row.chunk row.routes else []

-- the timers of all idle routes
abbrev pub idle_timers_of : List Row → List Timer
idle_timers_of rows = flat_map timers_of_row rows

-- the public view of a row
abbrev pub seen_of : Row → RowSeen
seen_of row = record {
  chunk = row.chunk;
  input = row.input;
  home = row.home;
  size = row.size;
  owed = mask_of row.routes;
  flying = mask_of (flying_of row.routes);
  shut = row.shut;
}

-- ---- changes of its rows

-- a new row, open and pending for the outputs whose bits are set in a mask
abbrev pub opened : ChunkId → Option InputId → Home → List ℕ → ℕ → ℕ → Row
opened chunk input home tag size owed = record {
  chunk = chunk;
  input = input;
  home = home;
  tag = tag;
  size = size;
  shut = false;
  routes = routes_to owed;
}

-- the rows, with that of this chunk changed
abbrev pub on_chunk : ChunkId → (Row → Row) → List Row → List Row
on_chunk chunk f rows = map (λ row. if is_row_of chunk row then f row else row) rows

-- the rows without that of this chunk
abbrev pub without_chunk : ChunkId → List Row → List Row
without_chunk chunk rows = filter (λ row. not (is_row_of chunk row)) rows

-- a row with another size
abbrev pub grown : ℕ → Row → Row
grown size row = record row { size = size }

-- a row that is closed: its routes are due at a time
abbrev pub shut_at : ℕ → Row → Row
shut_at now row = record row { shut = true; routes = map (due_at now) row.routes }

-- a row with a flush of one route started
abbrev pub started_to : OutputId → Row → Row
started_to output row = record row { routes = on_output output started row.routes }

-- a row with one route idle again
abbrev pub stayed_to : OutputId → Row → Row
stayed_to output row = record row { routes = on_output output stayed row.routes }

-- a row with one route failed once more and due at another time
abbrev pub retried_to : OutputId → ℕ → Row → Row
retried_to output due row = record row { routes = on_output output (retried due) row.routes }

-- a row with one route resolved
abbrev pub resolved_to : OutputId → Row → Row
resolved_to output row = record row { routes = without_output output row.routes }

-- a row with one route retried at a time, or resolved
abbrev pub answered_by : Bool → OutputId → ℕ → Row → Row
answered_by true output due row = retried_to output due row
answered_by false output due row = resolved_to output row
