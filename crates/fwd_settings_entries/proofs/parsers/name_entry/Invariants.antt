use Rattle.std.proofs.Common.{◌≡◌, drop}
use Rattle.std.specs.List.{last_or, filter}
use Rattle.std.specs.Option.{option_copied}
use Rattle.fwd_settings_entries.specs.Parsers.{is_name, name_entry}
use Rattle.fwd_settings_entries.proofs.parsers.name_entry.Given as goal

abbrev pub invariant-loop-entry : goal.invariant-loop-entry
invariant-loop-entry l = last_or (option_copied l.name) (filter is_name (drop l.entry-index l.entries)) ≡ name_entry l.entries
