use Rattle.fwd_settings_entries.specs.Values.{property_value}
use Rattle.fwd_settings_entries.specs.Parsers.{parser_named}
use Rattle.fwd_settings_entries.proofs.Readings.{stopped}
use Rattle.fwd_settings_entries.proofs.EntryLemmas.{read_parser_value, parser_refused}
use Rattle.fwd_settings_entries.proofs.entries.value.Goals as goal

pub returns-in_err-parser-in-Parser : goal.returns-in_err-parser-in-Parser
returns-in_err-parser-in-Parser c =
    stopped (property_value (parser_named c.args.all.now) c.args.kind c.args.entry.now) c.in_err-parser-in-Parser.field-0.0 c.from_residual.result c.from_residual.ensures.1
    (parser_refused c.args.all.now c.args.entry.now c.args.kind c.in-Parser.is c.in_err-parser-in-Parser.field-0.0 c.in_err-parser-in-Parser.ensures)

pub returns-in_ok-parser-in-Parser : goal.returns-in_ok-parser-in-Parser
returns-in_ok-parser-in-Parser c =
    read_parser_value c.args.all.now c.args.entry.now c.args.kind c.in-Parser.is c.in_ok-parser-in-Parser.parser c.in_ok-parser-in-Parser.ensures
