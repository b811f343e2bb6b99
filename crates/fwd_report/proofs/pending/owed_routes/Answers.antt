use Rattle.std.proofs.Common.{sym, ◌∙◌, ap, arith}
use Rattle.fwd_table.proofs.SlotRows.{all_places}
use Rattle.fwd_report.specs.Report.{owed_routes}
use Rattle.fwd_report.proofs.RowLines.{count_more, count_same}
use Rattle.fwd_report.proofs.pending.owed_routes.Goals as goal
use Rattle.fwd_report.proofs.pending.owed_routes.Goals.{in-Some, in_default}

pub loop-place-preserved : goal.loop-place-preserved
loop-place-preserved c =
    elim c.match-row.branch [
      | in-Some w ↦
          count_more c.args.table.now.places c.loop-place.place w.in-Some.row c.loop-place.owed w.from.result c.match-row.owed w.in-Some.ensures.value w.in-Some.ensures.owed w.from.ensures c.loop-place.invariant
          (w.owed-is ∙ w.saturating_add-owed.ensures)
      | in_default w ↦ count_same c.args.table.now.places c.loop-place.place c.loop-place.owed c.match-row.owed (sym w.in_default.is ∙ c.row.ensures.value) c.loop-place.invariant w.owed-is
    ]

pub returns : goal.returns
returns c =
    let all = all_places c.args.table.now.places c.loop-place.place (omega (arith, c.places-place-end.ensures.count)) in
    c.loop-place.invariant ∙ ap owed_routes (all ∙ sym c.places-place-end.ensures.rows)
