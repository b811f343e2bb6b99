use Rattle.std.proofs.Common.{◌≡◌}
use Rattle.fwd_settings_schema.specs.Property.{last_in, parser_in}
use Rattle.fwd_settings_schema.proofs.properties.last_parser.Given as goal

abbrev pub invariant-loop-item : goal.invariant-loop-item
invariant-loop-item l = l.parser ≡ last_in parser_in l.yielded
