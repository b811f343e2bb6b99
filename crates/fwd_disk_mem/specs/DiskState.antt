-- The abstract state of a disk in memory: its record of calls with their answers, how many calls have
-- failed, and the place in the record from which an image counts calls.
use Rattle.std.specs.Prelude.{ℕ, ◌+◌, ◌-◌, ◌^◌, min, List, Result, Err}
use Rattle.fwd_outside.specs.declared.errors.DiskErr.{DiskErr}
use Rattle.fwd_outside.specs.declared.errors.DiskErr.TheVariants.{Failed}
use Rattle.fwd_disk_mem.specs.declared.entry.MemEntry.{MemEntry}

pub record Seen : Type 0 where
  pub calls : List MemEntry
  pub faults : ℕ
  pub mark : ℕ

-- The number of failed calls after one with this answer. The count stops at its greatest value.
abbrev pub counted : {T : Type 0} → Result T DiskErr → ℕ → ℕ
counted (Err Failed) faults = min (faults + 1) (2 ^ 64 - 1)
counted answer faults = faults
