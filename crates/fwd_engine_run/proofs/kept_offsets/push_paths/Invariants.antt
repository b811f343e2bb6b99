use Rattle.std.proofs.Common.{◌≡◌, ◌++◌, map, take}
use Rattle.fwd_model.specs.KeptOffsets.{tracked_from}
use Rattle.fwd_engine_run.specs.OneOffset.{new_row}
use Rattle.fwd_engine_run.proofs.kept_offsets.push_paths.Given as goal

-- the files of the paths so far
abbrev pub invariant-loop-index : goal.invariant-loop-index
invariant-loop-index l = l.rows.items ≡ l.fn.rows.items ++ map new_row (tracked_from l.input.0 0 l.db (take l.index l.paths))
