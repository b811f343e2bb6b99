use Rattle.std.proofs.Common.{sym}
use Rattle.fwd_settings_entries.proofs.EntryLemmas.{parser_found, parser_unknown}
use Rattle.fwd_settings_entries.proofs.parsers.parser_named.Goals as goal

pub returns-in-Some : goal.returns-in-Some
returns-in-Some c = parser_found c.args.all.now c.args.entry.now c.in-Some.section.now c.parser_of.result (rw c.as_slice.ensures at (sym c.in-Some.ensures)) c.parser_of.ensures

pub returns-in-None : goal.returns-in-None
returns-in-None c = parser_unknown c.args.all.now c.args.entry.now c.refuse.result (rw c.as_slice.ensures at (sym c.in-None.ensures)) c.refuse.ensures
