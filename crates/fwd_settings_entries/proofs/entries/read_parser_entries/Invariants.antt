use Rattle.fwd_settings_schema.specs.declared.section_kind.Target.TheVariants as target
use Rattle.fwd_settings_entries.specs.Values.{entry_property}
use Rattle.fwd_settings_entries.specs.Parsers.{no_parser}
use Rattle.fwd_settings_entries.proofs.Readings.{ReadFrom}
use Rattle.fwd_settings_entries.proofs.entries.read_parser_entries.Given as goal

abbrev pub invariant-loop-entry : goal.invariant-loop-entry
invariant-loop-entry l = ReadFrom (entry_property no_parser target.Parser) l.entries l.entry-index l.properties
