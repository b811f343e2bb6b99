-- What of a table is in files, in memory and in flight.
use Rattle.std.specs.Prelude.{ℕ, Bool, true, false, ◌&&◌, ◌||◌, ◌==◌, not, List, length, filter, sum_by}
use Rattle.std.specs.Prelude.{Option, Some, None}
use Rattle.std.specs.List.{list_any}
use Rattle.fwd_base.specs.declared.ids.InputId.{InputId}
use Rattle.fwd_base.specs.declared.ids.OutputId.{OutputId}
use Rattle.fwd_outside.specs.declared.home.Home.{Home}
use Rattle.fwd_outside.specs.declared.home.Home.TheVariants.{Disk, Ram}
use Rattle.fwd_table_rows.specs.declared.row.Row.{Row}
use Rattle.fwd_table_rows.specs.Routes.{flying_of, is_to}

-- whether a chunk is kept in a file
abbrev pub is_file : Home → Bool
is_file Disk = true
is_file Ram = false

abbrev pub in_file : Row → Bool
in_file row = is_file row.home

-- whether a chunk is recovered: it came from no input of this run
abbrev pub is_recovered : Option InputId → Bool
is_recovered None = true
is_recovered (Some input) = false

abbrev pub is_recovered_row : Row → Bool
is_recovered_row row = is_recovered row.input

-- whether a chunk came from an input
abbrev pub is_from : ℕ → Option InputId → Bool
is_from input None = false
is_from input (Some of) = of.0 == input

-- whether a flush of it is in flight, to whatever output
abbrev pub flies : Row → Bool
flies row = not (length (flying_of row.routes) == 0)

-- whether a flush to this output is in flight
abbrev pub is_flying : OutputId → Row → Bool
is_flying output row = list_any (is_to output) (flying_of row.routes)

-- whether it is closed, pending for this output, and not in flight to it
abbrev pub is_waiting : OutputId → Row → Bool
is_waiting output row = row.shut && (list_any (is_to output) row.routes && not (is_flying output row))

-- the total bytes of the contents of some chunks
abbrev pub size_of : List Row → ℕ
size_of rows = sum_by (λ row. row.size) rows

-- the chunks in files that are in flight to an output
abbrev pub flying_to : OutputId → List Row → List Row
flying_to output rows = filter (λ row. in_file row && is_flying output row) rows

-- the closed chunks in files that wait for an output
abbrev pub waiting_for : OutputId → List Row → List Row
waiting_for output rows = filter (λ row. in_file row && is_waiting output row) rows

-- how many chunks in files are in flight
abbrev pub files_up : List Row → ℕ
files_up rows = length (filter (λ row. in_file row && flies row) rows)

-- how many bytes of recovered chunks are in flight
abbrev pub found_up : List Row → ℕ
found_up rows = size_of (filter (λ row. is_recovered_row row && flies row) rows)

-- how many bytes the open and pending chunks of an input have in memory
abbrev pub memory_of : ℕ → List Row → ℕ
memory_of input rows =
    size_of
    (filter
    (λ row. not (in_file row)
    && (is_from input row.input && (not row.shut || not (length row.routes == 0)))) rows)
