-- The calls that a function made of a program, and facts of a result's value.
use Rattle.std.proofs.Common.{Option, Result, Ok, Err, OnOk}
use Rattle.fwd_outside.specs.Log.{RunsFallible}
use Rattle.fwd_outside.specs.declared.errors.DiskErr.{DiskErr}
use Rattle.fwd_outside.specs.Disk.{DiskLog, DiskProgram, disk_outcome}
use Rattle.fwd_outside.proofs.DiskPrograms.{Made}

-- a function made the calls of a program
pub made : {T : Type 0} {a b : DiskLog} {p : DiskProgram (Option T)} {r : Result T DiskErr} → RunsFallible a b p (disk_outcome r) → Made a b p r
made calls = record { makes = calls }

pub on_ok : {T E : Type 0} {P Q : Type 0} (r : Result T E) → (P → Q) → OnOk r P → OnOk r Q
on_ok (Ok x) so holds = so holds
on_ok (Err e) so holds = tt
