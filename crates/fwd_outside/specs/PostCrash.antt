-- What holds of each post-crash state of a file, and of a disk by its call log.
use Rattle.std.specs.Prelude.{◌≡◌, ◌≢◌, ◌⊎◌, ℕ, Option, Some, None, List, length, get_or}
use Rattle.fwd_outside.specs.Reachable.{Since, After}
use Rattle.fwd_outside.specs.Disk.{DiskCall, DiskLog, Place, WriteAt, Sync, Remove, Read, ListNames, Preset, FailAt}
use Rattle.fwd_outside.specs.File.{FileState, IsPostCrash}
use Rattle.fwd_outside.specs.DiskStates.{Files, DiskTransition, initial_files}

-- P holds of each post-crash state of the file of this name
abbrev pub AllPostCrash : List ℕ → (Option (List ℕ) → Type 0) → Files → Type 0
AllPostCrash name P files = (image : Option (List ℕ)) → IsPostCrash (files name) image → P image

-- no name but this one changed
abbrev pub OthersUnchanged : List ℕ → Files → Files → Type 0
OthersUnchanged name old new = (n : List ℕ) → n ≢ name → new n ≡ old n

-- the whole file, or none
abbrev pub WholeOrAbsent : List ℕ → Option (List ℕ) → Type 0
WholeOrAbsent bytes image = (image ≡ Some bytes) ⊎ (image ≡ None)

-- no file, or what a crash could have left before
abbrev pub AbsentOrBefore : FileState → Option (List ℕ) → Type 0
AbsentOrBefore before image = (image ≡ None) ⊎ IsPostCrash before image

-- two byte strings of equal length that differ at most at one offset
pub record DiffersAtMostAt (at : ℕ) (one other : List ℕ) : Type 0 where
  pub long : length one ≡ length other
  pub same : (i : ℕ) → i ≢ at → get_or one i 0 ≡ get_or other i 0

-- For each disk with `Before` that the earlier calls may have left, P relates it to the disk at each crash
-- point since.
abbrev pub DiskSince : DiskLog → DiskLog → (Files → Type 0) → (Files → Files → Type 0) → Type 0
DiskSince old new Before P = Since DiskTransition initial_files old new Before P

-- For each disk with `Before` that the earlier calls may have left, P relates it to each disk that is
-- possible now.
abbrev pub DiskAfter : DiskLog → DiskLog → (Files → Type 0) → (Files → Files → Type 0) → Type 0
DiskAfter old new Before P = After DiskTransition initial_files old new Before P

-- the call may change the file of this name
abbrev pub IsOn : DiskCall → List ℕ → Type 0
IsOn (Place n bytes) name = n ≡ name
IsOn (WriteAt n at bytes) name = n ≡ name
IsOn (Sync n) name = n ≡ name
IsOn (Remove n) name = n ≡ name
IsOn (Read n at len) name = ⊥
IsOn (ListNames folder) name = ⊥
IsOn (Preset n bytes) name = n ≡ name
IsOn (FailAt number) name = ⊥
