use Rattle.std.proofs.Common.{◌≡◌, drop}
use Rattle.std.specs.Prelude.{◌||◌}
use Rattle.std.specs.List.{flat_map}
use Rattle.fwd_retry.specs.declared.timer.Timer.{Timer}
use Rattle.fwd_table_rows.specs.Slots.{timers_of_slot}
use Rattle.fwd_table.specs.DueIndex.{is_among, is_listed}
use Rattle.fwd_table.proofs.due_index.index_of.Given as goal

abbrev pub invariant-loop-place : goal.invariant-loop-place
invariant-loop-place l =
    (timer : Timer)
    → (is_among (flat_map timers_of_slot (drop l.place l.places.items)) timer || is_listed l.index timer)
    ≡ is_among (flat_map timers_of_slot l.places.items) timer
