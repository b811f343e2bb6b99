-- The filter that was prepared, and what remains of an event.
use Rattle.std.specs.Prelude.{Option, Some, None}
use Rattle.fwd_event.specs.declared.event.Event.{Event}
use Rattle.fwd_filters.specs.declared.filter_step.FilterKind.{FilterKind}
use Rattle.fwd_filters.specs.declared.filter_step.FilterKind.TheVariants as kind
use Rattle.fwd_filters.specs.declared.prepared_filter.PreparedFilter.{PreparedFilter}
use Rattle.fwd_filters.specs.declared.prepared_filter.PreparedFilter.TheVariants.{Grep, Modify, Nest, Lift}
use Rattle.fwd_filters.specs.declared.prepared_filter.FilterOutcome.{FilterOutcome}
use Rattle.fwd_filters.specs.declared.prepared_filter.FilterOutcome.TheVariants.{Left, Dropped}

-- the filter of the configuration
abbrev pub kind_of : PreparedFilter → FilterKind
kind_of (Grep rules) = kind.Grep rules
kind_of (Modify rules) = kind.Modify rules.now
kind_of (Nest rule) = kind.Nest rule.now
kind_of (Lift rule) = kind.Lift rule.now

-- the event, unless it is dropped
abbrev pub remaining_of : FilterOutcome → Option Event
remaining_of (Left e) = Some e
remaining_of (Dropped e) = None
