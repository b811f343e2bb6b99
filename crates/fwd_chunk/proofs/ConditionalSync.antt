-- A sync that depends on a condition.
use Rattle.std.proofs.Common.{◌≡◌, ◌≢◌, ℕ, Bool, true, false, List, Some, None, Result, subst}
use Rattle.fwd_outside.specs.Program.{Return, and_then}
use Rattle.fwd_outside.specs.Log.{RunsFallible}
use Rattle.fwd_outside.specs.declared.errors.DiskErr.{DiskErr}
use Rattle.fwd_outside.specs.Disk.{DiskLog, disk_outcome}
use Rattle.fwd_outside.proofs.DiskPrograms.{Made}
use Rattle.fwd_chunk.specs.Append.{sync_if_program}

pub synced_if : {a b : DiskLog} (full : Bool) {n m : List ℕ} {r : Result (Unit {0}) DiskErr} → n ≡ m → RunsFallible a b (sync_if_program full n) (disk_outcome r) → Made a b (sync_if_program full m) r
synced_if {a = a} {b = b} full {r = r} is makes = record { makes = subst (λ (n : List ℕ). RunsFallible a b (sync_if_program full n) (disk_outcome r)) is makes }

-- it can't fail before its first call
pub sync_begins : (full : Bool) (name : List ℕ) → sync_if_program full name ≢ Return None
sync_begins true name is = absurd (cc is)
sync_begins false name is = absurd (cc is)

pub sync_begins_record : (full : Bool) (name : List ℕ) → and_then (sync_if_program full name) (λ _. Return (Some true)) ≢ Return None
sync_begins_record true name is = absurd (cc is)
sync_begins_record false name is = absurd (cc is)
