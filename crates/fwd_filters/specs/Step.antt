-- What filters make of one event.
use Rattle.std.specs.Prelude.{List, [], ◌∷◌, Option, Some, None, if◌then◌else◌, option_and_then}
use Rattle.fwd_grep.specs.Grep.{kept}
use Rattle.fwd_reshape.specs.Rules.{modified}
use Rattle.fwd_reshape.specs.Moves.{nested, lifted}
use Rattle.fwd_event.specs.declared.event.Event.{Event}
use Rattle.fwd_filters.specs.declared.filter_step.FilterKind.{FilterKind}
use Rattle.fwd_filters.specs.declared.filter_step.FilterKind.TheVariants.{Grep, Modify, Nest, Lift}

-- what one filter makes of an event, or nothing if it drops it; all but the record is unchanged
abbrev pub step_of : FilterKind → Event → Option Event
step_of (Grep rules) e = if kept rules e.body then Some e else None
step_of (Modify rules) e = Some (record e { body = modified rules e.body })
step_of (Nest rule) e = Some (record e { body = nested rule e.body })
step_of (Lift rule) e = Some (record e { body = lifted rule e.body })

-- what filters make of an event, one after another
abbrev pub through : List FilterKind → Event → Option Event
through [] e = Some e
through (kind ∷ kinds) e = option_and_then (through kinds) (step_of kind e)
