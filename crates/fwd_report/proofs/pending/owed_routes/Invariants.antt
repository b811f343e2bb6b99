use Rattle.std.proofs.Common.{◌≡◌, take}
use Rattle.fwd_table.specs.Rows.{rows_at}
use Rattle.fwd_report.specs.Report.{owed_routes}
use Rattle.fwd_report.proofs.pending.owed_routes.Given as goal

abbrev pub invariant-loop-place : goal.invariant-loop-place
invariant-loop-place l = l.owed ≡ owed_routes (rows_at (take l.place l.table.places))
