use Rattle.std.proofs.Common.{◌≡◌, ◌++◌, take}
use Rattle.std.specs.List.{flat_map}
use Rattle.fwd_table.specs.Rows.{rows_at}
use Rattle.fwd_report.specs.Report.{row_lines}
use Rattle.fwd_report.proofs.pending.push_rows.Given as goal

abbrev pub invariant-loop-place : goal.invariant-loop-place
invariant-loop-place l = l.text ≡ l.fn.text ++ flat_map (row_lines l.outputs) (rows_at (take l.place l.table.places))
