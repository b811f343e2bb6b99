use Rattle.std.proofs.Common.{None, get_or, sym, ◌∙◌}
use Rattle.fwd_report.proofs.RowLines.{line_put, line_left, none_left}
use Rattle.fwd_report.proofs.pending.push_row.Goals as goal

pub returns-in_ok-push_chunk : goal.returns-in_ok-push_chunk
returns-in_ok-push_chunk c =
    line_put (get_or c.args.table.now.places c.args.place None) c.in-Some.row c.tag.result.now c.args.outputs.now c.args.text.now c.push_chunk.new.text c.in-Some.ensures.value c.tag.ensures c.in-Some.ensures.owed c.if-row-ne0.true
    c.in_ok-push_chunk.ensures

pub returns-else-row-ne0 : goal.returns-else-row-ne0
returns-else-row-ne0 c = line_left (get_or c.args.table.now.places c.args.place None) c.in-Some.row c.args.outputs.now c.args.text.now c.in-Some.ensures.value c.if-row-ne0.false

pub returns-in_default : goal.returns-in_default
returns-in_default c = none_left (get_or c.args.table.now.places c.args.place None) c.args.outputs.now c.args.text.now (sym c.in_default.is ∙ c.row.ensures.value)
