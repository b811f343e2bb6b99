use Rattle.std.proofs.Common.{◌≡◌, ◌≤◌}
use Rattle.std.specs.VecDeque.{deque_capacity, deque_len}
use Rattle.fwd_table_rows.proofs.SlotChanges.{Keeps}
use Rattle.fwd_table_rows.proofs.slot.drop_first_gaps.Given as goal

abbrev pub invariant-loop-places : goal.invariant-loop-places
invariant-loop-places l = Keeps l.initial.places.items l.places.items × (deque_capacity l.places ≡ deque_capacity l.initial.places) × (deque_len l.places ≤ deque_len l.initial.places)

abbrev pub decreases-loop-places : goal.decreases-loop-places
decreases-loop-places l = deque_len l.places
