use Rattle.std.proofs.Common.{◌≡◌, drop}
use Rattle.std.specs.List.{last_or, filter_map}
use Rattle.std.specs.Option.{option_copied}
use Rattle.fwd_settings_schema.specs.Property.{value_for, last_value}
use Rattle.fwd_settings_schema.proofs.properties.last_value.Given as goal

abbrev pub invariant-loop-item : goal.invariant-loop-item
invariant-loop-item l = last_or (option_copied l.last) (filter_map (value_for l.key) (drop l.item-index l.properties)) ≡ last_value l.key l.properties
