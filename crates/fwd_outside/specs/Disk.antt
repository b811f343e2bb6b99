-- A disk: its calls, and what each may answer.
use Rattle.std.specs.Prelude.{ℕ, List, Option, Some, None, Result, Ok, Err, All, Contains, IsUtf8}
use Rattle.std.specs.List.Sorted.{IsStrictlySortedBy}
use Rattle.std.specs.Cmp.Lexicographic.{slice_cmp}
use Rattle.std.specs.Ordering.{nat_cmp}
use base.Stored.{Gv}
use Rattle.fwd_outside.specs.Program.{Entry, Program, Return, Ask}
use Rattle.fwd_outside.specs.Log.{CallLog}
use Rattle.fwd_outside.specs.declared.errors.DiskErr.{DiskErr}
use Rattle.fwd_outside.specs.declared.errors.DiskErr.TheVariants.{Failed, Memory}

pub data DiskCall : Type 0 where
  Place : (name bytes : List ℕ) → DiskCall
  WriteAt : (name : List ℕ) → (at : ℕ) → (bytes : List ℕ) → DiskCall
  Sync : (name : List ℕ) → DiskCall
  Remove : (name : List ℕ) → DiskCall
  Read : (name : List ℕ) → (at len : ℕ) → DiskCall
  ListNames : (folder : List ℕ) → DiskCall
  -- Not a call, but an instruction to a disk in memory: the file of this name has these bytes from here on,
  -- fsynced.
  Preset : (name bytes : List ℕ) → DiskCall
  -- not a call either: the call of this number is to fail
  FailAt : (number : ℕ) → DiskCall

-- None if the call failed
abbrev pub DiskAnswer : DiskCall → Type 0
DiskAnswer (Place name bytes) = Option (Unit {0})
DiskAnswer (WriteAt name at bytes) = Option (Unit {0})
DiskAnswer (Sync name) = Option (Unit {0})
DiskAnswer (Remove name) = Option (Unit {0})
DiskAnswer (Read name at len) = Option (List ℕ)
DiskAnswer (ListNames folder) = Option (List (List ℕ))
DiskAnswer (Preset name bytes) = Unit {0}
DiskAnswer (FailAt number) = Unit {0}

abbrev pub DiskEntry : Type 0
DiskEntry = Entry DiskCall DiskAnswer

-- the files that were there at first, by name; and for a disk that wraps another: which one, as the logic
-- stores it; else empty
pub record DiskGiven : Type 0 where
  pub files : List (List ℕ × List ℕ)
  pub round : Gv

abbrev pub DiskLog : Type 0
DiskLog = CallLog DiskGiven DiskCall DiskAnswer

abbrev pub DiskProgram : Type 0 → Type 0
DiskProgram R = Program DiskCall DiskAnswer R

-- the outcome of a call: a value, a failure, or none if memory was out
abbrev pub disk_outcome : {T : Type 0} → Result T DiskErr → Option (Option T)
disk_outcome (Ok value) = Some (Some value)
disk_outcome (Err Failed) = Some None
disk_outcome (Err Memory) = None

-- a name within a folder: UTF-8 without `/`
pub record IsFileName (name : List ℕ) : Type 0 where
  pub text : IsUtf8 name
  pub plain : Contains name 47 → ⊥

-- a listing of a disk: names, sorted, each once
pub record IsListing (names : List (List ℕ)) : Type 0 where
  pub each : All IsFileName names
  pub sorted : IsStrictlySortedBy (slice_cmp nat_cmp) names

-- one call, as a program
abbrev pub places : List ℕ → List ℕ → DiskProgram (Option (Unit {0}))
places name bytes = Ask (Place name bytes) (λ answer. Return answer)

abbrev pub writes : List ℕ → ℕ → List ℕ → DiskProgram (Option (Unit {0}))
writes name at bytes = Ask (WriteAt name at bytes) (λ answer. Return answer)

abbrev pub syncs : List ℕ → DiskProgram (Option (Unit {0}))
syncs name = Ask (Sync name) (λ answer. Return answer)

abbrev pub removes : List ℕ → DiskProgram (Option (Unit {0}))
removes name = Ask (Remove name) (λ answer. Return answer)

abbrev pub reads : List ℕ → ℕ → ℕ → DiskProgram (Option (List ℕ))
reads name at len = Ask (Read name at len) (λ answer. Return answer)

abbrev pub lists : List ℕ → DiskProgram (Option (List (List ℕ)))
lists folder = Ask (ListNames folder) (λ answer. Return answer)
