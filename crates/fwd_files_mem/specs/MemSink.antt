-- A sink in memory: its record of writes, and its answers.
use Rattle.std.specs.Prelude.{◌≡◌, ℕ, ◌+◌, ◌-◌, ◌^◌, min, Bool, true, false, if◌then◌else◌, List, [], ◌∷◌, ◌++◌, length, map, Some, Result, Ok, Err}
use Rattle.std.specs.Ordering.{nat_cmp}
use Rattle.std.specs.List.{list_any}
use Rattle.std.specs.BTreeMap.{is_at}
use Rattle.fwd_outside.specs.Program.{entry}
use Rattle.fwd_outside.specs.declared.errors.SinkErr.{SinkErr}
use Rattle.fwd_outside.specs.declared.errors.SinkErr.TheVariants.{Failed, Memory}
use Rattle.fwd_outside.specs.Sink.{SinkEntry, SinkLog, Write, Wrote, Stopped}
use Rattle.fwd_files_mem.specs.declared.sink.SinkNote.{SinkNote}
use Rattle.fwd_files_mem.specs.SinkState.{SinkState}

-- the trace of a note; a failed write takes no byte
abbrev pub entry_of : SinkNote → SinkEntry
entry_of note = entry (Write note.piece) (if note.written then Wrote else Stopped 0)

abbrev pub entries_of : List SinkNote → List SinkEntry
entries_of notes = map entry_of notes

abbrev pub told_of : SinkState → SinkLog
told_of held = Some (tt, entries_of held.notes)

-- whether the next write is to fail
abbrev pub fails_next : SinkState → Bool
fails_next held = list_any (is_at (nat_cmp (length held.notes + 1))) held.fails

abbrev pub note_of : List ℕ → Bool → SinkNote
note_of piece written = record { piece = piece; written = written }

-- after a successful write
abbrev pub with_write : SinkState → List ℕ → SinkState
with_write held piece = record held { notes = held.notes ++ note_of piece true ∷ [] }

-- after a failed write
abbrev pub with_fault : SinkState → List ℕ → SinkState
with_fault held piece =
    record held
    { notes = held.notes ++ note_of piece false ∷ []; faults = min (held.faults + 1) (2 ^ 64 - 1) }

-- A write fails exactly if it is to fail, and is recorded. Out of memory changes nothing.
abbrev pub Answered : {T : Type 0} → Result T SinkErr → List ℕ → SinkState → SinkState → Type 0
Answered (Ok done) piece old new = (fails_next old ≡ false) × (new ≡ with_write old piece)
Answered (Err Failed) piece old new = (fails_next old ≡ true) × (new ≡ with_fault old piece)
Answered (Err Memory) piece old new = new ≡ old
