use Rattle.std.proofs.Common.{◌++◌, take}
use Rattle.std.specs.List.{filter_map}
use Rattle.fwd_script_loop.specs.ScriptRun.{change_in}
use Rattle.fwd_replay.specs.FileChanges.{FilesAt}
use Rattle.fwd_replay.specs.RunState.{FilesRepresent}
use Rattle.fwd_replay.proofs.progress.make_changes.Given as goal

abbrev pub invariant-loop-planned : goal.invariant-loop-planned
invariant-loop-planned l =
    (at : FilesAt) → FilesRepresent l.fn.files at → FilesRepresent l.files (record at { changes = at.changes ++ filter_map change_in (take l.planned-index l.planned-items) })
