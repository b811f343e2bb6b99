use Rattle.std.proofs.Common.{◌≡◌, take}
use Rattle.std.specs.List.{filter_map}
use Rattle.fwd_settings_schema.specs.Property.{wildcard_in}
use Rattle.fwd_settings_schema.proofs.properties.wildcards.Given as goal

abbrev pub invariant-loop-item : goal.invariant-loop-item
invariant-loop-item l = l.names ≡ filter_map wildcard_in (take l.item-index l.properties)
