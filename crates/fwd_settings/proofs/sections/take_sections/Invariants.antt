use Rattle.fwd_settings.proofs.SectionSteps.{CheckedFrom}
use Rattle.fwd_settings.proofs.sections.take_sections.Given as goal

abbrev pub invariant-loop-section : goal.invariant-loop-section
invariant-loop-section l = CheckedFrom l.all l.path l.section-index l.partial
