use Rattle.std.proofs.Common.{◌≡◌, [], take}
use Rattle.fwd_table.specs.Rows.{rows_at}
use Rattle.fwd_limits.specs.Evictions.{other_waiting}
use Rattle.fwd_limits.proofs.eviction.first_waiting.Given as goal

abbrev pub invariant-loop-place : goal.invariant-loop-place
invariant-loop-place l = other_waiting l.output l.chunk (rows_at (take l.place l.table.places)) ≡ []
