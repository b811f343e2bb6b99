-- What contracts see of a counted disk.
use Rattle.std.specs.Prelude.{◌≡◌, ℕ, List, [], Some}
use Rattle.fwd_outside.specs.Log.{LogGrew}
use Rattle.fwd_outside.specs.Disk.{DiskEntry, DiskLog}
use Rattle.fwd_record.specs.DiskBelowCode.{given_to}
use Rattle.fwd_record.specs.Failures.{failed_from, number_after}

pub record Counting : Type 0 where
  -- the disk below: the name of the reference to it, its call log at the start and now, and its failures
  pub name : ℕ
  pub start : DiskLog
  pub below : DiskLog
  pub faults : ℕ
  -- the calls since the start, the number of the first and of the next, and the numbers of those that failed
  pub asked : List DiskEntry
  pub first : ℕ
  pub next : ℕ
  pub failed : List ℕ

-- a disk of which nothing was asked yet
abbrev pub counting : ℕ → DiskLog → ℕ → ℕ → Counting
counting name below faults first = record {
  name = name;
  start = below;
  below = below;
  faults = faults;
  asked = [];
  first = first;
  next = first;
  failed = [];
}

-- the call log
abbrev pub log_of : Counting → DiskLog
log_of c = Some (given_to c.name c.first c.start, c.asked)

-- what holds of each counted disk
pub record IsCounting (c : Counting) : Type 0 where
  pub passed : LogGrew c.start c.below c.asked
  pub next : c.next ≡ number_after c.first c.asked
  pub failed : c.failed ≡ failed_from c.first c.asked
