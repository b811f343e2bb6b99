use Rattle.std.proofs.Common.{◌≡◌, take}
use Rattle.fwd_settings.specs.Floats.{after_entries}
use Rattle.fwd_settings.proofs.floats.after_entries.Given as goal

abbrev pub invariant-loop-entry : goal.invariant-loop-entry
invariant-loop-entry l = l.floats ≡ after_entries l.fn.former (take l.entry-index l.entries)
