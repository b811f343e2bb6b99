use Rattle.std.proofs.Common.{◌≡◌, ℕ, ◌++◌, take, map}
use Rattle.fwd_files_mem.specs.declared.files.FilesNote.TheVariants as note
use Rattle.fwd_replay.proofs.start.set_failing_file_calls.Given as goal

abbrev pub invariant-loop-number : goal.invariant-loop-number
invariant-loop-number l = l.files ≡ record l.fn.files { notes = l.fn.files.notes ++ map (λ (number : ℕ). note.FailAt number) (take l.number-index l.number-items) }
