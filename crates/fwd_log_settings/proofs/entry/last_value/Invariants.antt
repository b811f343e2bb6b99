use Rattle.std.proofs.Common.{◌≡◌, drop}
use Rattle.std.specs.Prelude.{fold}
use Rattle.std.specs.Option.{option_copied}
use Rattle.fwd_log_settings.specs.Entry.{last_value, value_of_section}
use Rattle.fwd_log_settings.proofs.entry.last_value.Given as goal

abbrev pub invariant-loop-section : goal.invariant-loop-section
invariant-loop-section l = fold (value_of_section l.key) (option_copied l.last) (drop l.section-index l.sections) ≡ last_value l.key l.sections
