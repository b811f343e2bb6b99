use Rattle.std.proofs.Common.{List, ◌++◌, sym, ◌∙◌, ap, arith}
use Rattle.std.specs.List.{flat_map}
use Rattle.fwd_table.specs.Row.{Row}
use Rattle.fwd_table.proofs.SlotRows.{all_places}
use Rattle.fwd_report.specs.Report.{row_lines}
use Rattle.fwd_report.proofs.RowLines.{rows_more}
use Rattle.fwd_report.proofs.pending.push_rows.Goals as goal

pub loop-place-preserved : goal.loop-place-preserved
loop-place-preserved c = rows_more c.args.table.now.places c.args.outputs.now c.loop-place.place c.args.text.now c.loop-place.text c.push_row.new.text c.loop-place.invariant c.in_ok-push_row.ensures

pub returns : goal.returns
returns c =
    let all = all_places c.args.table.now.places c.loop-place.place (omega (arith, c.places-place-end.ensures.count)) in
    c.loop-place.invariant ∙ ap (λ (rows : List Row). c.args.text.now ++ flat_map (row_lines c.args.outputs.now) rows) (all ∙ sym c.places-place-end.ensures.rows)
