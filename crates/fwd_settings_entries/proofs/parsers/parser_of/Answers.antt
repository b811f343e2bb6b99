use Rattle.std.proofs.Common.{List, Ok, Err, subst}
use Rattle.fwd_config.specs.declared.section.Entry.{Entry}
use Rattle.fwd_settings_schema.specs.declared.section_kind.Target.TheVariants as target
use Rattle.fwd_settings_entries.specs.Reading.{IsResult, ReturnsResult}
use Rattle.fwd_settings_entries.specs.Values.{entry_properties}
use Rattle.fwd_settings_entries.specs.Parsers.{no_parser, parser_of}
use Rattle.fwd_settings_entries.proofs.Readings.{stopped}
use Rattle.fwd_settings_entries.proofs.EntryLemmas.{parser_by_properties, parser_no_properties}
use Rattle.fwd_settings_entries.proofs.parsers.parser_of.Goals as goal

pub returns-in_err-properties : goal.returns-in_err-properties
returns-in_err-properties c =
    stopped (parser_of c.args.section.now) c.in_err-properties.field-0.0 c.from_residual.result c.from_residual.ensures.1
    (parser_no_properties c.args.section.now c.in_err-properties.field-0.0
    (subst (λ (es : List Entry). ReturnsResult (entry_properties no_parser target.Parser es) (Err c.in_err-properties.field-0.0)) c.as_slice.ensures c.in_err-properties.ensures))

pub returns : goal.returns
returns c =
    parser_by_properties c.args.section.now c.in_ok-properties.properties c.parser_from.result
    (subst (λ (es : List Entry). IsResult (entry_properties no_parser target.Parser es) (Ok c.in_ok-properties.properties)) c.as_slice.ensures c.in_ok-properties.ensures) c.parser_from.ensures
