use Rattle.std.proofs.Common.{◌≡◌, drop}
use Rattle.std.specs.Option.{option_copied}
use Rattle.fwd_log_settings.specs.Entry.{value_in}
use Rattle.fwd_log_settings.proofs.entry.value_in.Given as goal

abbrev pub invariant-loop-entry : goal.invariant-loop-entry
invariant-loop-entry l = value_in l.key (option_copied l.last) (drop l.entry-index l.entries) ≡ value_in l.key (option_copied l.before) l.entries
