-- Chunks: which exist, which are open, and the content of each.
use Rattle.std.specs.Prelude.{ℕ, ◌+◌, max, ◌==◌, ◌&&◌, nat_le, not, Bool, true, false, if◌then◌else◌, List, [], ◌∷◌, ◌++◌, length, filter, find, Option, Some, None}
use Rattle.std.specs.Str.{bytes_eq}
use Rattle.fwd_base.specs.Limits.{largest_batch}
use Rattle.fwd_event.specs.declared.event.Event.{Event}
use Rattle.fwd_backlog.specs.Serial.{serial_number}
use Rattle.fwd_chunk.specs.declared.chunk.Chunk.{Chunk}
use Rattle.fwd_model.specs.Fact.{History, Batch, Placement, NoChunk, NewChunk, AppendedTo, Found, Offered, Accepted, ChunkClosed}
use Rattle.fwd_model.specs.RecoveredFile.{recovered_chunk, recovered_content, recovered_events}
-- events as they are stored, each in its shortest encoding
pub use Rattle.fwd_event.specs.EventPrefix.{encodings as encoded}

-- A chunk: its id, its input (none for a recovered chunk) and its tag.
pub record ChunkInfo : Type 0 where
  pub number : ℕ
  pub input : Option ℕ
  pub tag : List ℕ

abbrev pub recovered_info : ℕ → Option Chunk → List ChunkInfo
recovered_info number None = []
recovered_info number (Some chunk) = record { number = number; input = None; tag = chunk.tag } ∷ []

abbrev pub created_info : Batch → Placement → List ChunkInfo
created_info b NoChunk = []
created_info b (NewChunk chunk) = record { number = chunk; input = Some b.input; tag = b.tag } ∷ []
created_info b (AppendedTo chunk) = []

-- all chunks, in the order of their creation
abbrev pub chunks_of : History → List ChunkInfo
chunks_of [] = []
chunks_of (Found number stream name bytes ∷ h) = chunks_of h ++ recovered_info number (recovered_chunk bytes)
chunks_of (Accepted b place ∷ h) = chunks_of h ++ created_info b place
chunks_of (_ ∷ h) = chunks_of h

-- The id of the next new chunk. It is above the numbers of all recovered files and of their names, and
-- above all chunks that a batch was offered to.
abbrev pub next : History → ℕ
next [] = 1
next (Found number stream name bytes ∷ h) = max (next h) (1 + max number (serial_number name))
next (Offered chunk b ∷ h) = max (next h) (chunk + 1)
next (_ ∷ h) = next h

-- whether a chunk takes no more batches; a recovered chunk takes none
abbrev pub is_closed : History → ℕ → Bool
is_closed [] chunk = false
is_closed (Found other stream name bytes ∷ h) chunk = if other == chunk then true else is_closed h chunk
is_closed (ChunkClosed other ∷ h) chunk = if other == chunk then true else is_closed h chunk
is_closed (_ ∷ h) chunk = is_closed h chunk

-- the open chunks, in the order of their creation
abbrev pub open_chunks : History → List ChunkInfo
open_chunks h = filter (λ (c : ChunkInfo). not (is_closed h c.number)) (chunks_of h)

abbrev pub is_from : ℕ → Option ℕ → Bool
is_from input None = false
is_from input (Some other) = other == input

-- the open chunk of an input and tag
abbrev pub open_chunk : History → ℕ → List ℕ → Option ChunkInfo
open_chunk h input tag = find (λ (c : ChunkInfo). is_from input c.input && bytes_eq c.tag tag) (open_chunks h)

abbrev pub chunk_at : History → ℕ → Option ChunkInfo
chunk_at h chunk = find (λ (c : ChunkInfo). c.number == chunk) (chunks_of h)

-- whether a batch was stored in this chunk
abbrev pub is_stored_in : Placement → ℕ → Bool
is_stored_in NoChunk chunk = false
is_stored_in (NewChunk other) chunk = other == chunk
is_stored_in (AppendedTo other) chunk = other == chunk

-- the events of a chunk, in the order of acceptance
abbrev pub records : History → ℕ → List Event
records [] chunk = []
records (Found other stream name bytes ∷ h) chunk =
    if other == chunk then recovered_events bytes else records h chunk
records (Accepted b place ∷ h) chunk =
    if is_stored_in place chunk then records h chunk ++ b.events else records h chunk
records (_ ∷ h) chunk = records h chunk

-- the encoded content of a chunk, and its size in bytes
abbrev pub content : History → ℕ → List ℕ
content [] chunk = []
content (Found other stream name bytes ∷ h) chunk =
    if other == chunk then recovered_content bytes else content h chunk
content (Accepted b place ∷ h) chunk =
    if is_stored_in place chunk then content h chunk ++ encoded b.events else content h chunk
content (_ ∷ h) chunk = content h chunk

abbrev pub size : History → ℕ → ℕ
size h chunk = length (content h chunk)

-- the events of a batch that is being stored in this chunk, or whose storing failed
abbrev pub offered_events : History → ℕ → List Event
offered_events [] chunk = []
offered_events (Offered other b ∷ h) chunk = if other == chunk then b.events else offered_events h chunk
offered_events (Accepted b place ∷ h) chunk = if is_stored_in place chunk then [] else offered_events h chunk
offered_events (_ ∷ h) chunk = offered_events h chunk

-- Whether a batch may be stored: it has at most `largest_batch` bytes (16,777,216). An event with a length of
-- 2^32 or more is larger than that.
abbrev pub is_storable : List Event → Bool
is_storable events = nat_le (length (encoded events)) largest_batch
