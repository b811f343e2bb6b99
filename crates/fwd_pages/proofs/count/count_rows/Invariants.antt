use Rattle.std.proofs.Common.{◌≡◌, take}
use Rattle.fwd_table.specs.Rows.{rows_at}
use Rattle.fwd_pages.specs.Count.{count_of}
use Rattle.fwd_pages.proofs.count.count_rows.Given as goal

abbrev pub invariant-loop-place : goal.invariant-loop-place
invariant-loop-place l = l.count ≡ count_of l.which (rows_at (take l.place l.table.places))
