use Rattle.std.proofs.Common.{◌≡◌, ℕ, ◌<◌, length, take}
use Rattle.std.specs.Prelude.{slice_index, sum_by}
use Rattle.fwd_table_rows.specs.Sums.{Shifts, part_at}
use Rattle.fwd_table_rows.proofs.sums.shift_routes.Given as goal

abbrev pub invariant-loop-route : goal.invariant-loop-route
invariant-loop-route l =
    (length l.sums ≡ 64)
    × ((key : ℕ) → key < 64 → Shifts l.way (slice_index l.initial.sums key) (sum_by (part_at l.what key l.row) (take l.route-index l.route-items)) (slice_index l.sums key))
