-- Totals over the rows of slots, when one slot changes.
use Rattle.std.proofs.Common.{◌≡◌, ℕ, ◌+◌, ◌^◌, ◌<◌, ◌≤◌, List, length, get_or, set, take, sym, ap, subst, arith}
use Rattle.std.specs.Prelude.{All, IfSome, sum_by}
use Rattle.std.proofs.lemmas.List.Elements.{All-set}
use Rattle.std.proofs.lemmas.List.Sums.{get_or-le-sum_by, sum_by-set, sum_by_more, sum_by_more_le}
use Rattle.fwd_table_rows.specs.declared.slot.Slot.{Slot}
use Rattle.fwd_table_rows.specs.declared.sums.Sums.{Sums}
use Rattle.fwd_table_rows.specs.Slots.{rows_in}
use Rattle.fwd_table_rows.specs.Sums.{Counted, part, part_of, total, AreSums, IsValidRow}
use Rattle.fwd_table_rows.proofs.SlotChanges.{AtPlace, All-at_places, All-rows_in, few_standing, sum_standing}
use Rattle.fwd_table_rows.proofs.RowSums.{parts_few}

abbrev adds : Counted → ℕ → Slot → ℕ
adds counted key place = part_of counted key place.row

-- the part of a slot is at most the total
pub held_at : (sums : Sums) (places : List Slot) (i : ℕ) (old : Slot) → AreSums sums (rows_in places) → i < length places → old ≡ get_or places i old → (counted : Counted) (key : ℕ) → key < 64 → part_of counted key old.row ≤ total counted key sums
held_at sums places i old are within is counted key below =
    let whole = are counted key below in
    let split = sum_standing (part counted key) places in
    let one = get_or-le-sum_by (adds counted key) places i old within in
    let own : part_of counted key old.row ≡ adds counted key (get_or places i old) = ap (adds counted key) is in
    omega (arith, whole, split, one, own)

-- a slot changed, and the total with it
pub summed_set : (counted : Counted) (key : ℕ) (places : List Slot) (i : ℕ) (old new : Slot) (before behind : ℕ) → i < length places → old ≡ get_or places i old → before ≡ sum_by (part counted key) (rows_in places)
    → behind + part_of counted key old.row ≡ before + part_of counted key new.row → behind ≡ sum_by (part counted key) (rows_in (set places i new))
summed_set counted key places i old new before behind within is whole step =
    let split = sum_standing (part counted key) places in
    let again = sum_standing (part counted key) (set places i new) in
    let moved = sum_by-set (adds counted key) places i new old within in
    let own : part_of counted key old.row ≡ adds counted key (get_or places i old) = ap (adds counted key) is in
    omega (arith, whole, split, again, moved, own, step)

-- there is room for the part of one more row
pub room_left : (counted : Counted) (key : ℕ) (places : List Slot) → All IsValidRow (rows_in places) → length places < 2 ^ 64 → sum_by (part counted key) (rows_in places) + 2 ^ 64 ≤ 2 ^ 128
room_left counted key places sound few =
    let all = parts_few counted key (rows_in places) sound in
    let fewer = few_standing places in
    omega (arith, all, fewer, few)

-- the total of one more slot is below 2^128
pub next_fits : (counted : Counted) (key : ℕ) (places : List Slot) (i : ℕ) (place : Slot) (sum : ℕ) → All IsValidRow (rows_in places) → length places < 2 ^ 64 → i < length places → place ≡ get_or places i place
    → sum ≡ sum_by (part counted key) (rows_in (take i places)) → sum + part_of counted key place.row < 2 ^ 128
next_fits counted key places i place sum sound few within is so_far =
    let room = room_left counted key places sound few in
    let split = sum_standing (part counted key) places in
    let before = sum_standing (part counted key) (take i places) in
    let some = sum_by_more_le (adds counted key) places i place within in
    let own : part_of counted key place.row ≡ adds counted key (get_or places i place) = ap (adds counted key) is in
    omega (arith, room, split, before, some, own, so_far)

pub summed_more : (counted : Counted) (key : ℕ) (places : List Slot) (i : ℕ) (place : Slot) (before behind : ℕ) → i < length places → place ≡ get_or places i place
    → before ≡ sum_by (part counted key) (rows_in (take i places)) → behind ≡ before + part_of counted key place.row → behind ≡ sum_by (part counted key) (rows_in (take (i + 1) places))
summed_more counted key places i place before behind within is so_far step =
    let less = sum_standing (part counted key) (take i places) in
    let more = sum_standing (part counted key) (take (i + 1) places) in
    let next = sum_by_more (adds counted key) places i place within in
    let own : part_of counted key place.row ≡ adds counted key (get_or places i place) = ap (adds counted key) is in
    omega (arith, less, more, next, own, so_far, step)

-- ---- rows stay sound

pub sound_there : (places : List Slot) (i : ℕ) (old : Slot) → All IsValidRow (rows_in places) → i < length places → old ≡ get_or places i old → IfSome old.row IsValidRow
sound_there places i old sound within is = subst (AtPlace IsValidRow) (sym is) (All-at_places IsValidRow places sound i old within)

pub sound_after : (places : List Slot) (i : ℕ) (new : Slot) → All IsValidRow (rows_in places) → IfSome new.row IsValidRow → All IsValidRow (rows_in (set places i new))
sound_after places i new sound one = All-rows_in IsValidRow (set places i new) (All-set (AtPlace IsValidRow) places i new one (All-at_places IsValidRow places sound))
