use Rattle.std.proofs.Common.{◌++◌, length}
use Rattle.fwd_files_mem.specs.MemFiles.{SameFiles}
use Rattle.fwd_files_mem.proofs.files.copy_of.Given as goal

abbrev pub invariant-loop-path : goal.invariant-loop-path
invariant-loop-path l = SameFiles l.files.entries (l.rest ++ l.copy.entries)

abbrev pub decreases-loop-path : goal.decreases-loop-path
decreases-loop-path l = length l.rest
