-- The numbers of the disk calls that failed.
use Rattle.std.specs.Prelude.{ℕ, ◌+◌, ◌-◌, ◌^◌, min, Bool, false, if◌then◌else◌, List, [], ◌∷◌, ◌++◌, is_none}
use Rattle.fwd_outside.specs.Disk.{DiskCall, DiskAnswer, DiskEntry, Place, WriteAt, Sync, Remove, Read, ListNames, Preset, FailAt}

abbrev pub has_failed : (call : DiskCall) → DiskAnswer call → Bool
has_failed (Place name bytes) answer = is_none answer
has_failed (WriteAt name at bytes) answer = is_none answer
has_failed (Sync name) answer = is_none answer
has_failed (Remove name) answer = is_none answer
has_failed (Read name at len) answer = is_none answer
has_failed (ListNames folder) answer = is_none answer
has_failed (Preset name bytes) answer = false
has_failed (FailAt number) answer = false

-- the number of the next call; it stops at 2^64 - 1
abbrev pub next_number : ℕ → ℕ
next_number number = min (number + 1) (2 ^ 64 - 1)

abbrev pub if_failed : ℕ → DiskEntry → List ℕ
if_failed number e = if has_failed e.call e.answer then number ∷ [] else []

-- the numbers of those that failed, where the first call has this number
abbrev pub failed_from : ℕ → List DiskEntry → List ℕ
failed_from number [] = []
failed_from number (e ∷ es) = if_failed number e ++ failed_from (next_number number) es

-- the number of the call after these
abbrev pub number_after : ℕ → List DiskEntry → ℕ
number_after number [] = number
number_after number (e ∷ es) = number_after (next_number number) es
