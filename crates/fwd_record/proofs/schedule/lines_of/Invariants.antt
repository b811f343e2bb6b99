use Rattle.std.proofs.Common.{◌≡◌, map, take}
use Rattle.std.specs.Prelude.{All}
use Rattle.fwd_script.specs.Writable.{PlannedFits}
use Rattle.fwd_record.specs.Recorded.{line_of}
use Rattle.fwd_record.proofs.schedule.lines_of.Given as goal

abbrev pub invariant-loop-brought : goal.invariant-loop-brought
invariant-loop-brought l = (l.lines ≡ map (line_of l.links) (take l.brought-index l.heard)) × All PlannedFits l.lines
