use Rattle.fwd_settings_entries.specs.Values.{entry_property}
use Rattle.fwd_settings_entries.specs.Parsers.{parser_named}
use Rattle.fwd_settings_entries.proofs.Readings.{ReadFrom}
use Rattle.fwd_settings_entries.proofs.entries.read_entries.Given as goal

abbrev pub invariant-loop-entry : goal.invariant-loop-entry
invariant-loop-entry l = ReadFrom (entry_property (parser_named l.all) l.target) l.entries l.entry-index l.properties
