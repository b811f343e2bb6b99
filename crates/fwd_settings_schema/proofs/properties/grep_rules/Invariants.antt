use Rattle.std.proofs.Common.{◌≡◌}
use Rattle.std.specs.List.{filter_map}
use Rattle.fwd_settings_schema.specs.Property.{grep_in}
use Rattle.fwd_settings_schema.proofs.properties.grep_rules.Given as goal

abbrev pub invariant-loop-item : goal.invariant-loop-item
invariant-loop-item l = l.rules ≡ filter_map (grep_in l.floats) l.yielded
