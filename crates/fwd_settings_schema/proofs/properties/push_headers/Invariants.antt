use Rattle.std.proofs.Common.{◌≡◌, ◌++◌, take}
use Rattle.std.specs.List.{filter_map}
use Rattle.fwd_settings_schema.specs.Property.{header_in}
use Rattle.fwd_settings_schema.proofs.properties.push_headers.Given as goal

abbrev pub invariant-loop-item : goal.invariant-loop-item
invariant-loop-item l = l.fields ≡ l.fn.fields ++ filter_map header_in (take l.item-index l.properties)
