use Rattle.std.proofs.Common.{◌≡◌, drop, Some}
use Rattle.std.specs.Prelude.{filter, fold}
use Rattle.std.specs.List.{flat_map}
use Rattle.fwd_retry.specs.Timer.{earlier, first, is_next}
use Rattle.fwd_table_rows.specs.Slots.{timers_of_slot}
use Rattle.fwd_table_rows.proofs.slot.next_in.Given as goal

abbrev pub invariant-loop-index : goal.invariant-loop-index
invariant-loop-index l =
    fold (λ found timer. Some (earlier found timer)) l.first (filter (is_next l.now l.after) (flat_map timers_of_slot (drop l.index l.places.items)))
    ≡ first (filter (is_next l.now l.after) (flat_map timers_of_slot l.places.items))
