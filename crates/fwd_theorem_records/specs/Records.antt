-- The events of chunks in files, and what flushes begin with.
use Rattle.std.specs.Prelude.{◌≡◌, ℕ, List, [], ◌∷◌, All, Contains}
use Rattle.fwd_event.specs.EventPrefix.{events_in, IsWritable}
use Rattle.fwd_model.specs.Fact.{History, NewChunk, AppendedTo, OnRoute, FlushStarted, Found, Accepted}
use Rattle.fwd_model.specs.RecoveredFile.{recovered_content}
use Rattle.fwd_model.specs.Chunks.{records, content, encoded}
-- what a disk held when a run began
pub use Rattle.fwd_theorem_content.specs.KnownNames.{NamesAreKnown}

-- each event that was stored in a chunk can be encoded and read back
abbrev pub StoredAreWritable : History → Type 0
StoredAreWritable [] = Unit {0}
StoredAreWritable (Accepted b (NewChunk chunk) ∷ h) = All IsWritable b.events × StoredAreWritable h
StoredAreWritable (Accepted b (AppendedTo chunk) ∷ h) = All IsWritable b.events × StoredAreWritable h
StoredAreWritable (_ ∷ h) = StoredAreWritable h

-- this run made the chunk: it isn't the number of a recovered file
abbrev pub IsOfThisRun : History → ℕ → Type 0
IsOfThisRun h chunk = (stream name bytes : List ℕ) → Contains h (Found chunk stream name bytes) → ⊥

-- The events in the bytes of a chunk are its records: those that were accepted into it, in order. All bytes
-- of a chunk that this run made are encodings of its records, each of which can be read back. A recovered
-- chunk has the bytes that its file had, and its records are the events in them: none is added.
pub record HoldsRecords (h : History) (chunk : ℕ) : Type 0 where
  pub read : (events_in (content h chunk)).0 ≡ records h chunk
  pub written : IsOfThisRun h chunk → content h chunk ≡ encoded (records h chunk)
  pub writable : IsOfThisRun h chunk → All IsWritable (records h chunk)
  pub recovered : (stream name bytes : List ℕ) → Contains h (Found chunk stream name bytes)
      → content h chunk ≡ recovered_content bytes

-- each flush began with the records of its chunk
abbrev pub FlushesSendTheirRecords : History → Type 0
FlushesSendTheirRecords [] = Unit {0}
FlushesSendTheirRecords (OnRoute r (FlushStarted events) ∷ h) =
    (events ≡ records h r.chunk) × FlushesSendTheirRecords h
FlushesSendTheirRecords (_ ∷ h) = FlushesSendTheirRecords h
