use Rattle.std.proofs.Common.{◌≡◌, ◌++◌, take}
use Rattle.std.specs.List.{flat_map}
use Rattle.fwd_config.specs.Sections.{files_of_entry}
use Rattle.fwd_config.proofs.outline.add_files_of_section.Given as goal

abbrev pub invariant-loop-entry : goal.invariant-loop-entry
invariant-loop-entry l = l.files ≡ l.initial.files ++ flat_map files_of_entry (take l.entry-index l.section.entries)
