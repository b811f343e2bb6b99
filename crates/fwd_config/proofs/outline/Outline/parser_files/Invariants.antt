use Rattle.std.proofs.Common.{◌≡◌, take}
use Rattle.fwd_config.specs.Sections.{parser_files}
use Rattle.fwd_config.proofs.outline.Outline.parser_files.Given as goal

abbrev pub invariant-loop-section : goal.invariant-loop-section
invariant-loop-section l = l.files ≡ parser_files (take l.section-index l.self.sections.items)
