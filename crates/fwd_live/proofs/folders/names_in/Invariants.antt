use Rattle.std.proofs.Common.{All}
use Rattle.fwd_outside.specs.Disk.{IsFileName}
use Rattle.fwd_live.proofs.folders.names_in.Given as goal

abbrev pub invariant-loop-entry : goal.invariant-loop-entry
invariant-loop-entry l = All IsFileName l.names.items
