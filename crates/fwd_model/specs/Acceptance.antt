-- Actions that accept a batch: append it to the open chunk of its input and tag, start a new chunk with it,
-- or refuse it.
use Rattle.std.specs.Prelude.{ℕ, nat_lt, Bool, true, false, if◌then◌else◌, Option, Some, None}
use Rattle.fwd_base.specs.Limits.{numbers_end}
use Rattle.fwd_outside.specs.Program.{Return, bind}
use Rattle.fwd_store.specs.Store.{begins_as, append_to_program}
use Rattle.fwd_settings.specs.declared.settings_types.AllSettings.{AllSettings}
use Rattle.fwd_model.specs.Fact.{History, Batch, NoChunk, NewChunk, AppendedTo, Reason, TooLarge, NoNumber, NotStored, Offered, Accepted, Refused, IoFailed}
use Rattle.fwd_model.specs.Trace.{Action}
use Rattle.fwd_model.specs.DeviceActions.{on_disk}
use Rattle.fwd_model.specs.Settings.{home_at, names_for, outputs_for}
use Rattle.fwd_model.specs.Chunks.{ChunkInfo, next, open_chunk, encoded, is_storable}
use Rattle.fwd_model.specs.ChunkStorage.{kept_of, name_for}
use Rattle.fwd_model.specs.Notes.{note_then, is_empty}
use Rattle.fwd_model.specs.CloseActions.{closes_if_full, closes_chunk}

-- the history after the action, and whether the batch was accepted
pub record Acceptance : Type 0 where
  pub history : History
  pub taken : Bool

abbrev pub taken : History → Action Acceptance
taken h = Return (record { history = h; taken = true })

abbrev pub ends_refused : History → Action Acceptance
ends_refused h = Return (record { history = h; taken = false })

abbrev pub refuses : Batch → Reason → History → Action Acceptance
refuses b why h = note_then (Refused b why) h ends_refused

-- What follows an append. After a failed one the state of the file is unknown, so the chunk closes at once.
abbrev pub finishes_append : AllSettings → Batch → ℕ → History → Option (Unit {0}) → Action Acceptance
finishes_append s b chunk h (Some done) =
    note_then (Accepted b (AppendedTo chunk)) h (λ at. bind (closes_if_full s chunk at) taken)
finishes_append s b chunk h None =
    note_then IoFailed h
    (λ at. note_then (Refused b NotStored) at (λ last. bind (closes_chunk s chunk last) ends_refused))

-- what follows the atomic create of a chunk's file
abbrev pub finishes_create : AllSettings → Batch → ℕ → History → Option (Unit {0}) → Action Acceptance
finishes_create s b chunk h (Some done) =
    note_then (Accepted b (NewChunk chunk)) h (λ at. bind (closes_if_full s chunk at) taken)
finishes_create s b chunk h None = note_then IoFailed h (refuses b NotStored)

-- append a batch to a chunk
unfoldable pub appends : AllSettings → Batch → ℕ → History → Action Acceptance
appends s b chunk h =
    note_then (Offered chunk b) h
    (λ at. bind (on_disk (append_to_program (kept_of s h chunk) (encoded b.events) s.service.full))
    (finishes_append s b chunk at))

-- start a chunk with this id and a batch
unfoldable pub starts_chunk : AllSettings → Batch → ℕ → History → Action Acceptance
starts_chunk s b chunk h =
    note_then (Offered chunk b) h
    (λ at. bind
    (on_disk
    (begins_as (name_for s b.input chunk) b.tag (home_at s b.input) (encoded b.events)
    (names_for s b.tag))) (finishes_create s b chunk at))

-- append to the open chunk, or start one with the next id; refuse the batch if the ids are used up
abbrev pub stores : AllSettings → Batch → Option ChunkInfo → History → Action Acceptance
stores s b (Some c) h = appends s b c.number h
stores s b None h = if nat_lt (next h) numbers_end then starts_chunk s b (next h) h else refuses b NoNumber h

-- Accept a batch. An empty one does nothing. So a message without events is acknowledged and not counted:
-- otherwise its sender would repeat it forever. A batch that matches no output is accepted and not stored.
-- Any other is stored, or refused if it is too large.
unfoldable pub accepts : AllSettings → Batch → History → Action Acceptance
accepts s b h =
    if is_empty b.events then taken h
    else if is_empty (outputs_for s b.tag) then note_then (Accepted b NoChunk) h taken
    else if is_storable b.events then stores s b (open_chunk h b.input b.tag) h
    else refuses b TooLarge h

-- accept a batch without a reply to its sender
unfoldable pub ingests : AllSettings → Batch → History → Action History
ingests s b h = bind (accepts s b h) (λ (a : Acceptance). Return a.history)
