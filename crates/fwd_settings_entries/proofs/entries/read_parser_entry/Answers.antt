use Rattle.std.proofs.Common.{sym, ap, ◌∙◌}
use Rattle.fwd_settings_schema.specs.declared.section_kind.Target.TheVariants as target
use Rattle.fwd_settings_entries.specs.Parsers.{no_parser}
use Rattle.fwd_settings_schema.specs.Keys.{key_of}
use Rattle.fwd_settings_entries.specs.Values.{entry_property}
use Rattle.fwd_settings_entries.proofs.Readings.{stopped}
use Rattle.fwd_settings_entries.proofs.EntryLemmas.{unknown_key, key_value, key_refused}
use Rattle.fwd_settings_entries.proofs.entries.read_parser_entry.Goals as goal

pub returns-in_default : goal.returns-in_default
returns-in_default c =
    unknown_key no_parser target.Parser c.args.entry.now c.refuse.result (ap (key_of target.Parser) (sym c.as_slice.ensures) ∙ sym c.in_default.ensures) c.refuse.ensures

pub returns-in_err-value : goal.returns-in_err-value
returns-in_err-value c =
    let key = ap (key_of target.Parser) (sym c.as_slice.ensures) ∙ sym c.in-Some.ensures in
    stopped (entry_property no_parser target.Parser c.args.entry.now) c.in_err-value.field-0.0 c.from_residual.result c.from_residual.ensures.1
    (key_refused no_parser target.Parser c.args.entry.now c.in-Some.key c.in-Some.kind key c.in_err-value.field-0.0 c.in_err-value.ensures)

pub returns : goal.returns
returns c =
    let key = ap (key_of target.Parser) (sym c.as_slice.ensures) ∙ sym c.in-Some.ensures in
    key_value no_parser target.Parser c.args.entry.now c.in-Some.key c.in-Some.kind key c.in_ok-value.value c.in_ok-value.ensures
