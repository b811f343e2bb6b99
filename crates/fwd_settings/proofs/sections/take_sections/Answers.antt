use Rattle.std.proofs.Common.{arith, ap, ◌∙◌}
use Rattle.fwd_settings.specs.Floats.{floats_in}
use Rattle.fwd_settings.specs.Settings.{nothing, with_sections}
use Rattle.fwd_settings_entries.proofs.Readings.{stopped}
use Rattle.fwd_settings.proofs.SectionSteps.{checked_from_start, checked_from_next, checked_from_refused, checked_from_end}
use Rattle.fwd_settings.proofs.sections.take_sections.Goals as goal

pub loop-section-init : goal.loop-section-init
loop-section-init c = checked_from_start c.args.all.now c.args.path c.new-partial.result (c.new-partial.ensures ∙ ap nothing c.floats_in.ensures)

pub loop-section-preserved : goal.loop-section-preserved
loop-section-preserved c =
    checked_from_next c.args.all.now c.args.path c.loop-section.section-index c.section-item.result c.loop-section-test.true c.section-item.is c.loop-section.partial c.loop-section.invariant
    c.in_ok-partial.partial c.in_ok-partial.ensures

pub returns : goal.returns
returns c = checked_from_end c.args.all.now c.args.path c.loop-section.section-index c.loop-section.partial (omega arith) c.loop-section.invariant

pub returns-in_err-partial : goal.returns-in_err-partial
returns-in_err-partial c =
    stopped (with_sections c.args.all.now c.args.path (nothing (floats_in c.args.all.now)) c.args.all.now) c.in_err-partial.field-0.0 c.from_residual.result c.from_residual.ensures.1
    (checked_from_refused c.args.all.now c.args.path c.loop-section.section-index c.section-item.result c.loop-section-test.true c.section-item.is c.loop-section.partial c.loop-section.invariant
    c.in_err-partial.field-0.0 c.in_err-partial.ensures)
