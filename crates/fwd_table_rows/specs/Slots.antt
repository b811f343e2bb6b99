-- The slots of a table, ordered by chunk id; removed rows leave empty slots.
use Rattle.std.specs.Prelude.{◌≡◌, ◌≢◌, ◌<◌, ℕ, Bool, false, List, length, map, Option, IfSome, MatchOption}
use Rattle.std.specs.Prelude.{All, AllPairs, option_to_list}
use Rattle.std.specs.List.{HoldsAt, flat_map}
use Rattle.std.specs.Option.{option_map_or}
use Rattle.fwd_base.specs.declared.ids.ChunkId.{ChunkId}
use Rattle.fwd_retry.specs.declared.timer.Timer.{Timer}
use Rattle.fwd_table_rows.specs.declared.slot.Slot.{Slot}
use Rattle.fwd_table_rows.specs.declared.row.Row.{Row}
use Rattle.fwd_table_rows.specs.Rows.{is_owed_row, rows_at, timers_of_row}

-- the rows of slots, with none for an empty one, and the rows alone
abbrev pub slot_rows : List Slot → List (Option Row)
slot_rows places = map (λ place. place.row) places

abbrev pub rows_in : List Slot → List Row
rows_in places = rows_at (slot_rows places)

-- each slot's chunk id is below those of all after it
abbrev pub NumbersRise : List Slot → Type 0
NumbersRise places = AllPairs (λ place behind. place.chunk.0 < behind.chunk.0) places

-- the row of a slot is that of the slot's chunk
abbrev pub HasOwnRow : Slot → Type 0
HasOwnRow place = IfSome place.row (λ row. row.chunk.0 ≡ place.chunk.0)

-- the index of a chunk's slot, if there is one
abbrev pub IsPlaceOf : ChunkId → List Slot → Option ℕ → Type 0
IsPlaceOf chunk places found =
    MatchOption found (All (λ place. place.chunk.0 ≢ chunk.0) places)
    (λ i. (i < length places) × HoldsAt (λ place. place.chunk.0 ≡ chunk.0) places i)

-- the timers of the idle routes of a slot's row
abbrev pub timers_of_slot : Slot → List Timer
timers_of_slot place = flat_map timers_of_row (option_to_list place.row)

-- whether a slot has a row that is pending for an output
abbrev pub is_owed_at : Slot → Bool
is_owed_at place = option_map_or is_owed_row place.row false
