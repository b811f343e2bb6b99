-- A disk that answers as one in memory does.
use Rattle.std.specs.Prelude.{◌≡◌, ℕ, List, ◌++◌, map, Option, Some, None}
use Rattle.fwd_disk_mem.specs.declared.entry.MemEntry.{MemEntry}
use Rattle.fwd_disk_mem.specs.declared.entry.MemEntry.TheVariants.{FailAt}
use Rattle.fwd_disk_mem.specs.Entry as disk
use Rattle.fwd_model.specs.Trace.{TraceEntry, disk_part}
use Rattle.fwd_record.specs.Failures.{failed_from}
use Rattle.fwd_theorem_runs.specs.SplitRun.{empty_recovery}

-- The number of the first disk call after recovery on an empty disk: recovery is one call if there is a storage
-- path, and none otherwise.
abbrev pub number_after_recovery : Option (List ℕ) → ℕ
number_after_recovery None = 1
number_after_recovery (Some root) = 2

-- After recovery the disk answered as an empty disk in memory does of which the same calls fail. The first of
-- these calls has this number.
pub record AnswersAsInMemory (number : ℕ) (path : Option (List ℕ)) (below : List TraceEntry) : Type 0 where
  pub asked : List MemEntry
  pub are : disk.entries_of asked ≡ disk_part (empty_recovery path ++ below)
  pub played : disk.IsPlayed (map (λ (number : ℕ). FailAt number) (failed_from number (disk_part below))) asked
