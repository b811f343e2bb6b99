-- A keeper in memory: its record of calls, its offsets after it, and its answers.
use Rattle.std.specs.Prelude.{◌≡◌, ℕ, ◌+◌, ◌-◌, ◌^◌, min, ◌==◌, Bool, List, [], ◌∷◌, ◌++◌, Option, Some, None, Result, Ok, Err}
use Rattle.std.specs.Ordering.{nat_cmp}
use Rattle.std.specs.List.{list_any}
use Rattle.std.specs.BTreeMap.{is_at}
use Rattle.fwd_outside.specs.Program.{entry}
use Rattle.fwd_keeper.specs.Keeper as keeper
use Rattle.fwd_keeper.specs.Keeper.{KeeperEntry, KeeperGiven, KeeperLog, IsConsistentLog}
use Rattle.fwd_keeper.specs.declared.errors.KeepErr.{KeepErr}
use Rattle.fwd_keeper.specs.declared.errors.KeepErr.TheVariants as keep_err
use Rattle.fwd_keeper_mem.specs.declared.mem_keeper.KeeperNote.{KeeperNote}
use Rattle.fwd_keeper_mem.specs.declared.mem_keeper.KeeperNote.TheVariants.{Get, Put, FailAt}
use Rattle.fwd_keeper_mem.specs.KeeperState.{KeeperState}
use Rattle.fwd_keeper_mem.specs.KeeperAnswers.{calls_in, fails_in, works, offsets_after, offsets_after_all, IsPlayed}
use Rattle.fwd_keeper_mem.specs.Offsets.{SameOffsets}

-- the entry of the call log of a note
abbrev pub entry_of : KeeperNote → KeeperEntry
entry_of (Get db path answer) = entry (keeper.Get db path) answer
entry_of (Put db path place answer) = entry (keeper.Put db path place) answer
entry_of (FailAt call) = entry (keeper.FailAt call) tt

abbrev pub entries_of : List KeeperNote → List KeeperEntry
entries_of [] = []
entries_of (note ∷ notes) = entry_of note ∷ entries_of notes

abbrev pub log_of : KeeperState → KeeperLog
log_of held = Some (held.given, entries_of held.notes)

-- the offsets after these notes
abbrev pub offsets_now : KeeperGiven → List KeeperNote → KeeperGiven
offsets_now given notes = offsets_after_all given (entries_of notes)

-- the offsets after one note
abbrev pub offsets_by : KeeperGiven → KeeperNote → KeeperGiven
offsets_by offsets note = offsets_after offsets (entry_of note).call (entry_of note).answer

-- whether the next call isn't to fail
abbrev pub works_now : KeeperState → Bool
works_now held = works (entries_of held.notes)

abbrev pub with_note : KeeperState → KeeperNote → KeeperState
with_note held note = record held { notes = held.notes ++ note ∷ [] }

-- after a failed call
abbrev pub with_fault : KeeperState → KeeperNote → KeeperState
with_fault held note =
    record held { notes = held.notes ++ note ∷ []; faults = min (held.faults + 1) (2 ^ 64 - 1) }

-- A call returns this answer and is recorded. Out of memory changes nothing.
abbrev pub Answered : {T : Type 0} → Result T KeepErr → Option T → (Option T → KeeperNote) → KeeperState
    → KeeperState → Type 0
Answered (Ok value) answer note old new = (answer ≡ Some value) × (new ≡ with_note old (note (Some value)))
Answered (Err keep_err.Failed) answer note old new = (answer ≡ None) × (new ≡ with_fault old (note None))
Answered (Err keep_err.Memory) answer note old new = new ≡ old

-- The fields of a keeper in memory beside its record: the offsets now, the number of calls, and the numbers
-- of the calls that are to fail.
pub record IsKept (given now : KeeperGiven) (notes : List KeeperNote) (calls : ℕ)
    (fails : List ℕ) : Type 0 where
  pub same : SameOffsets now (offsets_now given notes)
  pub honest : IsConsistentLog given [] (entries_of notes)
  pub played : IsPlayed given [] (entries_of notes)
  pub counted : calls ≡ calls_in (entries_of notes)
  pub failing : (number : ℕ)
      → list_any (is_at (nat_cmp number)) fails ≡ list_any (λ n. n == number) (fails_in (entries_of notes))
