-- The record of a disk in memory, its next answer, and the files after its calls.
use base.Stored.{gnil}
use Rattle.std.specs.Prelude.{◌≡◌, ℕ, ◌+◌, leb, ◌==◌, Bool, true, false, not, ◌&&◌, if◌then◌else◌, MatchBool, Option, Some, None, List, [], ◌∷◌, ◌++◌, length, map, take, drop}
use Rattle.std.specs.List.{list_any}
use Rattle.std.specs.Str.{bytes_eq}
use Rattle.fwd_outside.specs.Program.{entry}
use Rattle.fwd_outside.specs.Disk.{DiskEntry, DiskGiven, DiskLog, IsListing}
use Rattle.fwd_outside.specs.Disk as outside
use Rattle.fwd_outside.specs.File.{FileState, whole, absent, whole_or_absent, or_absent, overwritten, after_write}
use Rattle.fwd_outside.specs.DiskStates.{Files, AreNamesIn}
use Rattle.fwd_disk_mem.specs.FileTable.{MemFile, found}
use Rattle.fwd_disk_mem.specs.declared.entry.MemEntry.{MemEntry}
use Rattle.fwd_disk_mem.specs.declared.entry.MemEntry.TheVariants.{Place, WriteAt, Sync, Remove, Read, List as Listed, Preset, FailAt}

-- a successful call answers with a value, and a failed one with none
abbrev pub took : Bool → Option (Unit {0})
took ok = if ok then Some tt else None

abbrev pub entry_of : MemEntry → DiskEntry
entry_of (Place name bytes ok) = entry (outside.Place name bytes) (took ok)
entry_of (WriteAt name at bytes ok) = entry (outside.WriteAt name at bytes) (took ok)
entry_of (Sync name ok) = entry (outside.Sync name) (took ok)
entry_of (Remove name ok) = entry (outside.Remove name) (took ok)
entry_of (Read name at len answer) = entry (outside.Read name at len) answer
entry_of (Listed folder answer) = entry (outside.ListNames folder) answer
entry_of (Preset name bytes) = entry (outside.Preset name bytes) tt
entry_of (FailAt number) = entry (outside.FailAt number) tt

abbrev pub entries_of : List MemEntry → List DiskEntry
entries_of calls = map entry_of calls

-- it has no file at first: the record has the files that are set
abbrev pub given : DiskGiven
given = record { files = []; round = gnil }

abbrev pub log_of : List MemEntry → DiskLog
log_of calls = Some (given, entries_of calls)

-- the name that a call is about
abbrev pub named_by : MemEntry → List ℕ
named_by (Place name _ _) = name
named_by (WriteAt name _ _ _) = name
named_by (Sync name _) = name
named_by (Remove name _) = name
named_by (Read name _ _ _) = name
named_by (Listed folder _) = folder
named_by (Preset name _) = name
named_by (FailAt _) = []

-- how many entries are calls, and the numbers of the calls that are to fail
abbrev pub is_call : MemEntry → Bool
is_call (Preset _ _) = false
is_call (FailAt _) = false
is_call call = true

abbrev pub made_of : List MemEntry → ℕ
made_of [] = 0
made_of (call ∷ calls) = (if is_call call then 1 else 0) + made_of calls

abbrev pub fails_of : List MemEntry → List ℕ
fails_of [] = []
fails_of (FailAt number ∷ calls) = number ∷ fails_of calls
fails_of (call ∷ calls) = fails_of calls

-- the next call, counted from 1, isn't to fail
abbrev pub next_succeeds : List MemEntry → Bool
next_succeeds calls = not (list_any (λ number. number == made_of calls + 1) (fails_of calls))

abbrev pub can_write : FileState → ℕ → Bool
can_write file at = file.there && leb at (length file.bytes)

-- The file after a call on it. A failed call doesn't change what reads return, but it may have taken effect
-- after a crash.
abbrev pub file_after : FileState → MemEntry → FileState
file_after s (Place _ bytes ok) =
    if ok then whole bytes else if s.there then s else whole_or_absent bytes false
file_after s (WriteAt _ at bytes ok) =
    if can_write s at then after_write s at (length bytes) (if ok then bytes else []) else s
file_after s (Sync _ ok) = if ok && s.there then whole s.bytes else s
file_after s (Remove _ ok) = if s.there then (if ok then absent else or_absent s true) else s
file_after s (Preset _ bytes) = whole bytes
file_after s call = s

abbrev pub is_on : MemEntry → List ℕ → Bool
is_on (FailAt _) name = false
is_on call name = bytes_eq (named_by call) name

abbrev pub step : List ℕ → FileState → MemEntry → FileState
step name s call = if is_on call name then file_after s call else s

abbrev pub run : List ℕ → FileState → List MemEntry → FileState
run name s [] = s
run name s (call ∷ calls) = run name (step name s call) calls

-- each file after these calls
abbrev pub files_of : List MemEntry → Files
files_of calls name = run name absent calls

-- after these calls the disk gives this answer
abbrev pub AnswerIs : List MemEntry → MemEntry → Type 0
AnswerIs calls (Place name bytes ok) = ok ≡ next_succeeds calls
AnswerIs calls (WriteAt name at bytes ok) = ok ≡ (next_succeeds calls && can_write (files_of calls name) at)
AnswerIs calls (Sync name ok) = ok ≡ (next_succeeds calls && (files_of calls name).there)
AnswerIs calls (Remove name ok) = ok ≡ (next_succeeds calls && (files_of calls name).there)
AnswerIs calls (Read name at len answer) =
    answer
    ≡ (if next_succeeds calls && (files_of calls name).there
    then Some (take len (drop at (files_of calls name).bytes)) else None)
AnswerIs calls (Listed folder answer) =
    MatchBool (next_succeeds calls)
    ((names : List (List ℕ)) × (answer ≡ Some names) × IsListing names
    × AreNamesIn folder names (files_of calls)) (answer ≡ None)
AnswerIs calls call = Unit {0}

-- each of these calls, after the others, has the answer that the disk gives
abbrev pub IsPlayed : List MemEntry → List MemEntry → Type 0
IsPlayed before [] = Unit {0}
IsPlayed before (call ∷ calls) = AnswerIs before call × IsPlayed (before ++ call ∷ []) calls

-- what a read returns after a write, by what it returned before
abbrev pub written_over : ℕ → List ℕ → Option (List ℕ) → Option (List ℕ)
written_over at bytes None = None
written_over at bytes (Some old) = Some (overwritten old at bytes)

abbrev pub seen_after : MemEntry → Option (List ℕ) → Option (List ℕ)
seen_after (Place _ bytes ok) old = if ok then Some bytes else old
seen_after (WriteAt _ at bytes ok) old = if ok then written_over at bytes old else old
seen_after (Remove _ ok) old = if ok then None else old
seen_after (Preset _ bytes) old = Some bytes
seen_after call old = old

abbrev pub Changes : List MemFile → List MemFile → MemEntry → Type 0
Changes old new call =
    (n : List ℕ) → found new n ≡ (if is_on call n then seen_after call (found old n) else found old n)

-- an entry that sets no failure
abbrev pub IsNoNumber : MemEntry → Type 0
IsNoNumber (FailAt number) = ⊥
IsNoNumber call = Unit {0}
