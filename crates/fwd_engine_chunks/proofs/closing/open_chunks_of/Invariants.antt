use Rattle.std.proofs.Common.{◌≡◌, map, filter, not, take}
use Rattle.fwd_table.specs.Rows.{rows_at}
use Rattle.fwd_engine_chunks.proofs.closing.open_chunks_of.Given as goal

abbrev pub invariant-loop-place : goal.invariant-loop-place
invariant-loop-place l = l.chunks.items ≡ map (λ row. row.chunk) (filter (λ row. not row.shut) (rows_at (take l.place l.table.places)))
