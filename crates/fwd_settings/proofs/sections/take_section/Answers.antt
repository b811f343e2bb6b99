use Rattle.std.proofs.Common.{List, Err, subst, ap, ◌∙◌}
use Rattle.fwd_config.specs.declared.section.Entry.{Entry}
use Rattle.fwd_settings_entries.specs.Parsers.{parser_named}
use Rattle.fwd_settings_entries.specs.Reading.{ReturnsResult}
use Rattle.fwd_settings.specs.Settings.{entries_here, with_section}
use Rattle.fwd_settings_entries.specs.Values.{entry_properties}
use Rattle.fwd_settings_entries.proofs.Readings.{stopped}
use Rattle.fwd_settings.proofs.SectionSteps.{no_part, no_entries, with_entries}
use Rattle.fwd_settings.proofs.sections.take_section.Goals as goal

pub returns-in_err-target : goal.returns-in_err-target
returns-in_err-target c =
    stopped (with_section c.args.all.now c.args.path c.args.partial c.args.section.now) c.in_err-target.field-0.0 c.from_residual.result c.from_residual.ensures.1
    (no_part c.args.all.now c.args.path c.args.partial c.args.section.now c.in_err-target.field-0.0 c.in_err-target.ensures)

pub returns-in_err-properties : goal.returns-in_err-properties
returns-in_err-properties c =
    stopped (with_section c.args.all.now c.args.path c.args.partial c.args.section.now) c.in_err-properties.field-0.0 c.from_residual-in_err-properties.result c.from_residual-in_err-properties.ensures.1
    (no_entries c.args.all.now c.args.path c.args.partial c.args.section.now c.in_ok-target.target c.in_ok-target.ensures c.in_err-properties.field-0.0
    (subst (λ (l : List Entry). ReturnsResult (entry_properties (parser_named c.args.all.now) c.in_ok-target.target l) (Err c.in_err-properties.field-0.0))
    (c.entries_here-entries.ensures ∙ ap (entries_here c.in_ok-target.target) c.as_slice.ensures) c.in_err-properties.ensures))

pub returns : goal.returns
returns c =
    with_entries c.args.all.now c.args.path c.args.partial c.args.section.now c.in_ok-target.target c.in_ok-target.ensures c.in_ok-properties.properties c.with_target.result
    (rw (c.entries_here-entries.ensures, c.as_slice.ensures) at c.in_ok-properties.ensures) c.with_target.ensures
