use Rattle.std.proofs.Common.{◌≡◌}
use Rattle.std.specs.List.{filter_map}
use Rattle.fwd_settings_schema.specs.Property.{condition_in, change_in}
use Rattle.fwd_settings_schema.proofs.properties.modify_rules.Given as goal

abbrev pub invariant-loop-item : goal.invariant-loop-item
invariant-loop-item l = (l.rules.conditions ≡ filter_map condition_in l.yielded) × (l.rules.rules ≡ filter_map change_in l.yielded)
