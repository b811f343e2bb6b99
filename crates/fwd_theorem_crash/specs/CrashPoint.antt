-- A crash point: the entries so far, and the state of the disk's files.
use Rattle.std.specs.Prelude.{◌≡◌, ℕ, List, ◌∷◌, Option, Some, None}
use Rattle.fwd_outside.specs.Program.{entry}
use Rattle.fwd_outside.specs.AtCrashPoints.{TransitionsOf}
use Rattle.fwd_outside.specs.Disk.{DiskCall, DiskAnswer, Place, WriteAt, Sync, Remove, Read, ListNames, Preset, FailAt, IsListing}
use Rattle.fwd_outside.specs.DiskStates.{Files}
use Rattle.fwd_outside.specs.DiskStates as disk
use Rattle.fwd_model.specs.Trace.{Call, Answer, OnLoop, OnDisk, OnFiles, OnKeeper, Note}
use Rattle.fwd_theorem_trace.specs.Past.{Past}

pub record CrashPoint : Type 0 where
  pub past : Past
  pub files : Files

abbrev pub crash_point : Past → Files → CrashPoint
crash_point past files = record { past = past; files = files }

-- a disk lists valid file names, each once
abbrev pub HasNames : Option (List (List ℕ)) → Type 0
HasNames (Some names) = IsListing names
HasNames None = Unit {0}

abbrev pub IsNaming : (call : DiskCall) → DiskAnswer call → Type 0
IsNaming (Place name bytes) answer = Unit {0}
IsNaming (WriteAt name at bytes) answer = Unit {0}
IsNaming (Sync name) answer = Unit {0}
IsNaming (Remove name) answer = Unit {0}
IsNaming (Read name at len) answer = Unit {0}
IsNaming (ListNames folder) answer = HasNames answer
IsNaming (Preset name bytes) answer = Unit {0}
IsNaming (FailAt number) answer = Unit {0}

-- the files during a call and after it: a call on the disk changes them as a disk may
abbrev pub Changes : (call : Call) → Answer call → Files → Files → Files → Type 0
Changes (OnLoop call) answer old during new = disk.NoFileChanges old during new
Changes (OnDisk call) answer old during new =
    IsNaming call answer × disk.DiskTransition call answer old during new
Changes (OnFiles call) answer old during new = disk.NoFileChanges old during new
Changes (OnKeeper call) answer old during new = disk.NoFileChanges old during new
Changes (Note fact) answer old during new = disk.NoFileChanges old during new

-- An entry leads from one crash point to the next. Inside it nothing more is logged.
abbrev pub LeadsTo : TransitionsOf Call Answer CrashPoint
LeadsTo call answer old during new = Changes call answer old.files during.files new.files
    × (during.past ≡ old.past) × (new.past ≡ entry call answer ∷ old.past)
