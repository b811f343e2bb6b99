-- Intermediate states between the store call that takes a batch and the facts about it.
use Rattle.std.specs.Prelude.{◌≡◌, ℕ, ◌≤◌, ◌<◌, List, ◌∷◌, length, Bool, true, false, Option, Some, None, IfSome, Result, if◌then◌else◌}
use Rattle.fwd_base.specs.Limits.{largest_batch}
use Rattle.fwd_base.specs.declared.ids.ChunkId.{ChunkId}
use Rattle.fwd_event.specs.declared.event.Event.{Event}
use Rattle.fwd_event.specs.Event.{AreEvents}
use Rattle.fwd_outside.specs.Program.{bind}
use Rattle.fwd_settings.specs.declared.settings_types.AllSettings.{AllSettings}
use Rattle.fwd_store.specs.declared.answer.Accepted.{Accepted as Answer}
use Rattle.fwd_model.specs.Fact.{History, Batch, Placement, NewChunk, AppendedTo, Offered, Accepted, ChunkClosed}
use Rattle.fwd_model.specs.Chunks.{next, is_closed, is_storable, size, encoded}
use Rattle.fwd_model.specs.Trace.{Action}
use Rattle.fwd_model.specs.CallLogs.{CallLogs}
use Rattle.fwd_model.specs.Refines.{Refines}
use Rattle.fwd_model.specs.Notes.{note_then}
use Rattle.fwd_model.specs.CloseActions.{closes_if_full}
use Rattle.fwd_model.specs.Acceptance.{Acceptance, taken, finishes_create, finishes_append}
use Rattle.fwd_engine_state.specs.StateRepresents.{StateRepresents, IsNew, is_open}
use Rattle.fwd_engine_state.specs.StreamsRepresent.{StreamsRepresent}
use Rattle.fwd_engine_state.specs.FilesRepresent.{FilesRepresent}
use Rattle.fwd_engine_state.specs.StoreRepresents.{StoreRepresents}
use Rattle.fwd_engine_state.specs.HistoryInvariant.{IsSound}
use Rattle.fwd_engine_state.specs.PartsRepresent.{PartsRepresentIdle}
use Rattle.fwd_engine_state.specs.declared.parts.Parts.{Parts}
use Rattle.fwd_engine_chunks.specs.declared.encoding.EncodedBatch.{EncodedBatch}

-- the bytes encode the events of a batch, and are few enough to be stored
pub record IsEncoded (events : List Event) (bytes : List ℕ) : Type 0 where
  pub encoding : bytes ≡ encoded events
  pub short : length bytes ≤ largest_batch
  pub are : AreEvents events bytes

-- the encodings of events, which are there if they may be stored
pub record IsEncodingOf (events : List Event) (bytes : Option (List ℕ)) : Type 0 where
  pub encoding : bytes ≡ (if is_storable events then Some (encoded events) else None)
  pub are : IfSome bytes (λ b. AreEvents events b)

-- an encoded batch has these events
pub record HoldsEvents (events : List Event) (batch : EncodedBatch) : Type 0 where
  pub count : batch.count ≡ length events
  pub bytes : IsEncodingOf events batch.bytes

-- a batch was accepted or refused as the action says, and the parts represent the history after it
abbrev pub AcceptsAs : {E : Type 0} → AllSettings → Parts → CallLogs → CallLogs → Action Acceptance
    → Result Bool E → Type 0
AcceptsAs s after old new act result =
    Refines
    (λ was_taken (a : Acceptance). (a.taken ≡ was_taken)
    × PartsRepresentIdle s after a.history) old new act result

-- The store is ahead of the other parts: it represents a longer history than they do.
pub record StoreIsAhead (s : AllSettings) (parts : Parts) (h now : History) : Type 0 where
  pub state : StateRepresents s parts.state h None
  pub input_streams : StreamsRepresent s parts.input_streams h
  pub followed_files : FilesRepresent s parts.followed_files h
  pub store : StoreRepresents s parts.store now
  pub sound : IsSound s h None

-- ---- batches that the store took

-- the place of a batch, as the store returns it
abbrev pub stored_place : Bool → ℕ → Placement
stored_place true chunk = NewChunk chunk
stored_place false chunk = AppendedTo chunk

abbrev pub place_of : Answer → Placement
place_of a = stored_place a.fresh a.chunk.0

-- the history after a batch that the store took
abbrev pub behind : Batch → History → Answer → History
behind b h a = Accepted b (place_of a) ∷ Offered a.chunk.0 b ∷ h

-- a new chunk may begin with a batch of this size; an existing chunk has this size with the batch
abbrev pub SizesMatch : AllSettings → History → Batch → ℕ → ℕ → Bool → Type 0
SizesMatch s h b chunk bytes true = IsNew s h chunk × (length (encoded b.events) ≡ bytes)
SizesMatch s h b chunk bytes false =
    (chunk < next h) × (bytes ≡ size (Accepted b (AppendedTo chunk) ∷ h) chunk)

-- the store holds the batch, and its chunk, which may be full, is open
pub record StoreHasTaken (s : AllSettings) (h : History) (b : Batch) (a : Answer) : Type 0 where
  pub sound : IsSound s (behind b h a) (Some a.chunk.0)
  pub bytes : a.size ≡ size (behind b h a) a.chunk.0
  pub still : is_closed h a.chunk.0 ≡ false
  pub given : a.chunk.0 < next (behind b h a)
  pub sizes : SizesMatch s (Offered a.chunk.0 b ∷ h) b a.chunk.0 a.size a.fresh

-- the rest of the action
abbrev pub goes_on : AllSettings → Batch → History → Answer → Action Acceptance
goes_on s b h a =
    note_then (Accepted b (place_of a)) (Offered a.chunk.0 b ∷ h)
    (λ at. bind (closes_if_full s a.chunk.0 at) taken)

-- ---- batches that the disk failed to take

-- What the store represents then, by the chunk that took the batch: a new chunk has used its number up, and
-- an open one is closed.
abbrev pub failed_history : Batch → History → Option ChunkId → History
failed_history b h None = Offered (next h) b ∷ h
failed_history b h (Some chunk) = ChunkClosed chunk.0 ∷ Offered chunk.0 b ∷ h

abbrev pub WasOpen : History → Option ChunkId → Type 0
WasOpen h None = Unit {0}
WasOpen h (Some chunk) = is_open h chunk.0 ≡ true

-- the rest of the action
abbrev pub refuses_after_fault : AllSettings → Batch → History → Option ChunkId → Action Acceptance
refuses_after_fault s b h None = finishes_create s b (next h) (Offered (next h) b ∷ h) None
refuses_after_fault s b h (Some chunk) = finishes_append s b chunk.0 (Offered chunk.0 b ∷ h) None
