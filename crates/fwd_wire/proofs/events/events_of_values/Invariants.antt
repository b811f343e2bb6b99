use Rattle.std.proofs.Common.{◌≡◌, map}
use Rattle.std.specs.Vec.Iter.{into_iter_items}
use Rattle.fwd_value.specs.Val.{vals_of}
use Rattle.fwd_value.specs.View.{val_of}
use Rattle.fwd_wire.specs.Message.{events_of}
use Rattle.fwd_wire.proofs.EventLists.{behind}
use Rattle.fwd_wire.proofs.events.events_of_values.Given as goal

abbrev pub invariant-loop-value : goal.invariant-loop-value
invariant-loop-value l = behind l.events (events_of (vals_of (map val_of (into_iter_items l.value-iterator)))) ≡ events_of (vals_of l.fn.values)
