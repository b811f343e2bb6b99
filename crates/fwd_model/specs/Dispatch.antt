-- Dispatch: the idle routes that are due, and which of them may start.
use Rattle.std.specs.Prelude.{ℕ, ◌+◌, ◌==◌, ◌&&◌, ◌||◌, nat_lt, nat_le, not, Bool, false, List, map, filter, Option, Some, None}
use Rattle.fwd_retry.specs.declared.timer.Timer.{Timer}
pub use Rattle.fwd_retry.specs.Timer.{by_time, in_time}
use Rattle.fwd_table.specs.Row.{Row}
use Rattle.fwd_table.specs.Rows.{idle_timers_of, row_at}
use Rattle.fwd_table.specs.Usage.{in_file, is_recovered_row, flies, files_up, found_up}
use Rattle.fwd_settings.specs.declared.settings_types.AllSettings.{AllSettings}
use Rattle.fwd_model.specs.Fact.{History, Route}
use Rattle.fwd_model.specs.Settings.{output_at, slots_at}
use Rattle.fwd_model.specs.Clock.{clock}
use Rattle.fwd_model.specs.Routes.{route, rows_of, flights_to, is_idle}

abbrev pub route_of : Timer → Route
route_of timer = route timer.chunk.0 timer.output.0

-- the routes that are idle and due, ordered by due time, then chunk, then output
abbrev pub due_routes : AllSettings → History → List Route
due_routes s h =
    map route_of (in_time (filter (λ (t : Timer). nat_le t.due (clock h)) (idle_timers_of (rows_of s h))))

-- whether its output has a flush slot free
abbrev pub has_place : AllSettings → History → Route → Bool
has_place s h r = nat_lt (flights_to s h r.output) (slots_at (output_at s r.output))

-- A recovered chunk is loaded beside others only if their contents and its own fit the backlog limit. Each
-- has an event, and so a byte.
abbrev pub fits_backlog : ℕ → List Row → Row → Bool
fits_backlog limit rows row =
    not (is_recovered_row row) || (nat_le (found_up rows + row.size) limit || found_up rows == 0)

-- a chunk in a file that isn't in flight yet starts only if fewer than `max_up` such chunks are in flight
abbrev pub fits_row : AllSettings → List Row → Option Row → Bool
fits_row s rows None = false
fits_row s rows (Some row) =
    not (in_file row)
    || (flies row
    || (nat_lt (files_up rows) s.service.max_up && fits_backlog s.service.backlog_limit rows row))

abbrev pub fits : AllSettings → History → Route → Bool
fits s h r = fits_row s (rows_of s h) (row_at (record { 0 = r.chunk }) (rows_of s h))

-- whether a route may start now
abbrev pub may_start : AllSettings → History → Route → Bool
may_start s h r = is_idle s h r && (has_place s h r && fits s h r)
