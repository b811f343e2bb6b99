use Rattle.std.proofs.Common.{◌≡◌, map}
use Rattle.fwd_engine_run.specs.OneOffset.{new_row}
use Rattle.fwd_engine_run.proofs.TrackedFiles.{all_from}
use Rattle.fwd_engine_run.proofs.kept_offsets.KeptOffsets.of.Given as goal

-- the files of the inputs so far
abbrev pub invariant-loop-at : goal.invariant-loop-at
invariant-loop-at l = l.rows.items ≡ map new_row (all_from l.fn.settings 0 l.at)
