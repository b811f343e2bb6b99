use Rattle.std.proofs.Common.{◌≡◌, take}
use Rattle.std.specs.List.{filter_map}
use Rattle.fwd_script_loop.specs.ScriptRun.{change_in}
use Rattle.fwd_script_loop.proofs.script.changes_of.Given as goal

abbrev pub invariant-loop-planned : goal.invariant-loop-planned
invariant-loop-planned l = l.changes ≡ filter_map change_in (take l.planned-index l.left)
