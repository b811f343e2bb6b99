-- Counts of the table's rows.
use Rattle.std.specs.Prelude.{ℕ, ◌-◌, ◌^◌, min, Bool, true, false, not, ◌==◌, ◌&&◌, List, sum_by, Option, Some, None, if◌then◌else◌}
use Rattle.std.specs.Int.{bit_at}
use Rattle.fwd_base.specs.declared.ids.InputId.{InputId}
use Rattle.fwd_table.specs.Row.{Row}
use Rattle.fwd_table.specs.RowSeen.{RowSeen}
use Rattle.fwd_table.specs.Rows.{seen_of}
use Rattle.fwd_table.specs.Usage.{is_file}
use Rattle.fwd_pages.specs.declared.count.Counted.{Counted}
use Rattle.fwd_pages.specs.declared.count.Counted.TheVariants as counted

-- whether a chunk came from this input in this run
abbrev pub is_from : ℕ → Option InputId → Bool
is_from input None = false
is_from input (Some from) = from.0 == input

-- whether a row is counted
abbrev pub is_counted : Counted → RowSeen → Bool
is_counted counted.InMemory row = not (is_file row.home)
is_counted counted.InFiles row = is_file row.home
is_counted (counted.MemoryOf input) row = is_from input.0 row.input && not (is_file row.home)
is_counted (counted.FilesOf input) row = is_from input.0 row.input && is_file row.home
is_counted (counted.OpenOf input) row = is_from input.0 row.input && not row.shut
is_counted (counted.PendingFor output) row = bit_at row.owed output.0 == 1

-- 1 for a row that is counted
abbrev pub one_seen : Counted → RowSeen → ℕ
one_seen which row = if is_counted which row then 1 else 0

-- how many rows are counted, up to 2^64 - 1
abbrev pub count_of : Counted → List Row → ℕ
count_of which rows = min (sum_by (λ row. one_seen which (seen_of row)) rows) (2 ^ 64 - 1)
