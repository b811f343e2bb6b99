use Rattle.std.proofs.Common.{◌≡◌, ◌++◌, drop}
use Rattle.std.specs.Prelude.{filter, nat_le}
use Rattle.std.specs.List.{flat_map}
use Rattle.fwd_retry.specs.declared.timer.Timer.{Timer}
use Rattle.fwd_table_rows.specs.Slots.{timers_of_slot}
use Rattle.fwd_table_rows.proofs.slot.put_due_in.Given as goal

abbrev pub invariant-loop-index : goal.invariant-loop-index
invariant-loop-index l =
    l.timers.items ++ filter (λ (t : Timer). nat_le t.due l.now) (flat_map timers_of_slot (drop l.index l.places.items))
    ≡ l.initial.timers.items ++ filter (λ (t : Timer). nat_le t.due l.now) (flat_map timers_of_slot l.places.items)
