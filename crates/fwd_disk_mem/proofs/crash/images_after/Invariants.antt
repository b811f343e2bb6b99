use Rattle.std.proofs.Common.{ℕ, List, take}
use Rattle.fwd_outside.specs.File.{absent}
use Rattle.fwd_disk_mem.specs.Entry.{run}
use Rattle.fwd_disk_mem.specs.Images.{make, no_call_file, file_at, FileRepresents}
use Rattle.fwd_disk_mem.proofs.crash.images_after.Given as goal

abbrev pub invariant-loop-call : goal.invariant-loop-call
invariant-loop-call l = (name : List ℕ) → FileRepresents (run name absent (take l.call-index l.calls)) (make l.pick name absent no_call_file (take l.call-index l.calls)) (file_at l.files.entries name)
