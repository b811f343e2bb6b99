-- What contracts see of a table, and what a table keeps true.
use Rattle.std.specs.Prelude.{ℕ, ◌≤◌, nat_le, min, List, Option, All, if◌then◌else◌}
use Rattle.fwd_base.specs.Limits.{most_outputs}
use Rattle.fwd_table_rows.specs.declared.row.Row.{Row}
use Rattle.fwd_table_rows.specs.declared.slot.Slot.{Slot}
use Rattle.fwd_table_rows.specs.declared.sums.Sums.{Sums}
use Rattle.fwd_table_rows.specs.Rows.{ChunksRise, idle_timers_of}
use Rattle.fwd_table_rows.specs.Slots.{HasOwnRow, NumbersRise, rows_in}
use Rattle.fwd_table_rows.specs.Sums.{AreSums, IsValidRow}
use Rattle.fwd_table.specs.declared.due_index.DueIndex.{DueIndex}
use Rattle.fwd_table.specs.DueIndex.{IsIndexIfAny}

-- The model of a table: its rows, its slots (none for an empty one), and how many more rows are reserved.
pub record TableModel : Type 0 where
  pub rows : List Row
  pub places : List (Option Row)
  pub spare : ℕ

-- how many more rows fit, if routes and rows have this much room
abbrev pub spare_of : ℕ → ℕ → ℕ
spare_of storage room = if nat_le most_outputs storage then min 1 room else 0

-- the invariant of a table: the rows rise and are sound, the index has the timers of their idle routes if
-- there is an index, and their totals are known
pub record TableInvariant (index : Option DueIndex) (sums : Sums) (rows : List Row) : Type 0 where
  pub rise : ChunksRise rows
  pub sound : All IsValidRow rows
  pub listed : IsIndexIfAny (idle_timers_of rows) index
  pub summed : AreSums sums rows

-- the invariant of a table over its slots and rows
pub record SlotsInvariant (index : Option DueIndex) (sums : Sums) (places : List Slot) : Type 0 where
  pub numbers : NumbersRise places
  pub own : All HasOwnRow places
  pub kept : TableInvariant index sums (rows_in places)
