-- The totals that a table maintains, so that no call has to scan all rows.
use Rattle.std.specs.Option.{option_map_or}
use Rattle.std.specs.Prelude.{◌≡◌, ℕ, Option, ◌+◌, ◌<◌, ◌≤◌, ◌^◌, ◌==◌, ◌&&◌, ◌||◌, not, List, length}
use Rattle.std.specs.Prelude.{slice_index, sum_by, if◌then◌else◌}
use Rattle.fwd_table_rows.specs.declared.route.Route.{Route}
use Rattle.fwd_table_rows.specs.declared.row.Row.{Row}
use Rattle.fwd_table_rows.specs.declared.sums.ByOutput.{ByOutput}
use Rattle.fwd_table_rows.specs.declared.sums.ByOutput.TheVariants.{Flights, FlyingBytes, WaitingBytes}
use Rattle.fwd_table_rows.specs.declared.sums.Way.{Way}
use Rattle.fwd_table_rows.specs.declared.sums.Way.TheVariants.{In, Out}
use Rattle.fwd_table_rows.specs.declared.sums.Sums.{Sums}
use Rattle.fwd_table_rows.specs.Routes.{RiseFrom}
use Rattle.fwd_table_rows.specs.Rows.{is_owed_row}
use Rattle.fwd_table_rows.specs.Usage.{in_file, is_from, is_recovered_row, flies}

-- what is totalled: over the routes of each output, over the chunks of each input, or over all
pub data Counted : Type 0 where
  Over : (what : ByOutput) → Counted
  Memory : Counted
  FilesUp : Counted
  FoundUp : Counted
  Unowed : Counted
  Rows : Counted

-- how many bytes a chunk has in its file
abbrev pub file_size : Row → ℕ
file_size row = if in_file row then row.size else 0

-- the part of a route in a total of its output
abbrev pub route_part : ByOutput → Row → Route → ℕ
route_part Flights row r = if r.flying then 1 else 0
route_part FlyingBytes row r = if r.flying then file_size row else 0
route_part WaitingBytes row r = if row.shut && not r.flying then file_size row else 0

-- the part of a route in the total of a number
abbrev pub part_at : ByOutput → ℕ → Row → Route → ℕ
part_at what key row r = if r.output.0 == key then route_part what row r else 0

-- how many bytes of memory a row uses for its input
abbrev pub held_size : Row → ℕ
held_size row = if not (in_file row) && (not row.shut || not (length row.routes == 0)) then row.size else 0

-- the part of a row in a total
abbrev pub part : Counted → ℕ → Row → ℕ
part (Over what) key row = sum_by (part_at what key row) row.routes
part Memory key row = if is_from key row.input then held_size row else 0
part FilesUp key row = if in_file row && flies row then 1 else 0
part FoundUp key row = if is_recovered_row row && flies row then row.size else 0
part Unowed key row = if is_owed_row row then 0 else 1
part Rows key row = 1

-- the part of a row, if there is one
abbrev pub part_of : Counted → ℕ → Option Row → ℕ
part_of counted key row = option_map_or (part counted key) row 0

-- the total of a number; totals over all rows are the same for every number
abbrev pub total : Counted → ℕ → Sums → ℕ
total (Over Flights) key sums = slice_index sums.flights key
total (Over FlyingBytes) key sums = slice_index sums.flying key
total (Over WaitingBytes) key sums = slice_index sums.waiting key
total Memory key sums = slice_index sums.memory key
total FilesUp key sums = sums.files_up
total FoundUp key sums = sums.found_up
total Unowed key sums = sums.unowed
total Rows key sums = sums.rows

-- a total of a number, which is 0 past the last one
abbrev pub IsTotal : Counted → ℕ → Sums → ℕ → Type 0
IsTotal counted key sums sum = (key < 64 → sum ≡ total counted key sums) × (64 ≤ key → sum ≡ 0)

-- the totals are those of these rows
abbrev pub AreSums : Sums → List Row → Type 0
AreSums sums rows =
    (counted : Counted) (key : ℕ) → key < 64 → total counted key sums ≡ sum_by (part counted key) rows

-- a row's part may be added or subtracted
abbrev pub CanShift : Way → ℕ → ℕ → Type 0
CanShift In sum part = sum + part < 2 ^ 128
CanShift Out sum part = part ≤ sum

abbrev pub Shifts : Way → ℕ → ℕ → ℕ → Type 0
Shifts In old part new = new ≡ old + part
Shifts Out old part new = new + part ≡ old

-- a row whose outputs rise, and whose size is a number of 64 bits
pub record IsValidRow (row : Row) : Type 0 where
  pub rise : RiseFrom 0 row.routes
  pub size : row.size < 2 ^ 64
