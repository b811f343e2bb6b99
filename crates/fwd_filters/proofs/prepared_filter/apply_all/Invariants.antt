use Rattle.std.proofs.Common.{◌≡◌, map, drop}
use Rattle.fwd_filters.specs.Step.{through}
use Rattle.fwd_filters.specs.Prepared.{kind_of}
use Rattle.fwd_filters.proofs.prepared_filter.apply_all.Given as goal

-- the remaining filters make of the event as it is what all of them make of the original event
abbrev pub invariant-loop-i : goal.invariant-loop-i
invariant-loop-i l = record {
  rest : through (drop l.i (map kind_of l.fn.filters.items)) l.left ≡ through (map kind_of l.fn.filters.items) l.fn.event;
  same : map kind_of l.filters.items ≡ map kind_of l.fn.filters.items;
}
