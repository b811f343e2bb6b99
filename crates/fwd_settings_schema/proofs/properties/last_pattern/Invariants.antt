use Rattle.std.proofs.Common.{◌≡◌}
use Rattle.fwd_settings_schema.specs.Property.{last_in, pattern_in}
use Rattle.fwd_settings_schema.proofs.properties.last_pattern.Given as goal

abbrev pub invariant-loop-item : goal.invariant-loop-item
invariant-loop-item l = l.pattern ≡ last_in pattern_in l.yielded
