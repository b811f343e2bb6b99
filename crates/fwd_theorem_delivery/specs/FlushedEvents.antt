-- What a flush sends: the events of its chunk.
use Rattle.std.specs.Prelude.{◌≡◌, ℕ, true, List, Option, Some, None}
use Rattle.fwd_event.specs.declared.event.Event.{Event}
use Rattle.fwd_event.specs.EventPrefix.{events_in}
use Rattle.fwd_chunk.specs.declared.kept.Kept.{Kept}
use Rattle.fwd_chunk.specs.declared.kept.Kept.TheVariants.{InFile, Adopted, InMemory}
use Rattle.fwd_chunk.specs.Kept.{size_of}
use Rattle.fwd_settings.specs.declared.settings_types.AllSettings.{AllSettings}
use Rattle.fwd_model.specs.Fact.{History, Route}
use Rattle.fwd_model.specs.Chunks.{records}
use Rattle.fwd_model.specs.ChunkStorage.{kept_of}
use Rattle.fwd_model.specs.FlushActions.{is_complete_read}

-- a read of a chunk's file gave as many bytes as the chunk has, whole events, and these are they
pub record WereRead (size : ℕ) (events : List Event) : Type 0 where
  pub bytes : List ℕ
  pub whole : is_complete_read size bytes ≡ true
  pub are : events ≡ (events_in bytes).0

-- by where the chunk is kept: in memory, all events that were accepted into it, in order; in a file, those
-- that were read from it
abbrev pub AreOfChunk : Option Kept → History → Route → List Event → Type 0
AreOfChunk None h r events = ⊥
AreOfChunk (Some (InMemory bytes)) h r events = events ≡ records h r.chunk
AreOfChunk (Some (InFile head)) h r events = WereRead (size_of (InFile head)) events
AreOfChunk (Some (Adopted head)) h r events = WereRead (size_of (Adopted head)) events

-- a flush of the route that begins now sends the events of its chunk
abbrev pub SendsChunk : AllSettings → History → Route → List Event → Type 0
SendsChunk s h r events = AreOfChunk (kept_of s h r.chunk) h r events
