use Rattle.std.proofs.Common.{arith}
use Rattle.fwd_settings_schema.specs.declared.section_kind.Target.TheVariants as target
use Rattle.fwd_settings_entries.specs.Parsers.{no_parser}
use Rattle.fwd_settings_entries.specs.Reading.{each}
use Rattle.fwd_settings_entries.specs.Values.{entry_property}
use Rattle.fwd_settings_entries.proofs.Readings.{stopped, read_from_start, read_from_next, read_from_refused, read_from_end}
use Rattle.fwd_settings_entries.proofs.entries.read_parser_entries.Goals as goal

pub loop-entry-init : goal.loop-entry-init
loop-entry-init c = read_from_start (entry_property no_parser target.Parser) c.args.entries.now c.new-properties.result c.new-properties.ensures

pub loop-entry-preserved : goal.loop-entry-preserved
loop-entry-preserved c =
    read_from_next (entry_property no_parser target.Parser) c.args.entries.now c.loop-entry.entry-index c.entry-item.result c.loop-entry-test.true c.entry-item.is c.loop-entry.properties c.loop-entry.invariant
    c.in_ok-item.item c.push.new.self c.in_ok-item.ensures c.in_ok-push.ensures.ok

pub returns-in_err-item : goal.returns-in_err-item
returns-in_err-item c =
    stopped (each (entry_property no_parser target.Parser) c.args.entries.now) c.in_err-item.field-0.0 c.from_residual.result c.from_residual.ensures.1
    (read_from_refused (entry_property no_parser target.Parser) c.args.entries.now c.loop-entry.entry-index c.entry-item.result c.loop-entry-test.true c.entry-item.is c.loop-entry.properties c.loop-entry.invariant
    c.in_err-item.field-0.0 c.in_err-item.ensures)

pub returns : goal.returns
returns c = read_from_end (entry_property no_parser target.Parser) c.args.entries.now c.loop-entry.entry-index c.loop-entry.properties (omega arith) c.loop-entry.invariant
