use Rattle.std.proofs.Common.{◌≡◌, ◌++◌, map}
use Rattle.std.specs.List.{filter_map}
use Rattle.std.specs.Vec.Iter.{into_iter_items}
use Rattle.fwd_filters.specs.Step.{through}
use Rattle.fwd_filters.specs.Prepared.{kind_of}
use Rattle.fwd_filters.proofs.sieve.filter_events.Given as goal

abbrev pub invariant-loop-event : goal.invariant-loop-event
invariant-loop-event g l = record {
  left : l.left ++ filter_map (through (map kind_of l.fn.filters.items)) (into_iter_items l.event-iterator) ≡ filter_map (through (map kind_of l.fn.filters.items)) l.fn.events;
  same : map kind_of l.filters.items ≡ map kind_of l.fn.filters.items;
}
