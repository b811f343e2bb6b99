-- The facts that the engine logs: the results of its calls and its decisions. All state is a function of
-- these facts. Inputs, outputs, connections, links and chunks are given by their numbers. Facts have one
-- fixed type, since no clause can range over a type.
use Rattle.std.specs.Prelude.{ℕ, List}
use Rattle.fwd_event.specs.declared.event.Event.{Event}
use Rattle.fwd_outside.specs.declared.happening.Happening.{Happening}
use Rattle.fwd_flush.specs.FlushProgram.{Progress}

-- a source of bytes that are read piece by piece: lines of a TCP peer, forward messages of a peer, and
-- lines of the standard input for an input
pub data Stream : Type 0 where
  LineStream : (conn : ℕ) → Stream
  MessageStream : (conn : ℕ) → Stream
  Standard : (input : ℕ) → Stream

-- the events that one read, message, poll or end of input completed, after the filters
pub record Batch : Type 0 where
  pub input : ℕ
  pub tag : List ℕ
  pub events : List Event

-- Where a batch was stored: nowhere, as no output matches its tag; as the start of a new chunk; at the end
-- of a chunk.
pub data Placement : Type 0 where
  NoChunk : Placement
  NewChunk : (chunk : ℕ) → Placement
  AppendedTo : (chunk : ℕ) → Placement

-- Why a batch was refused: it is too large; all chunk ids are used; a disk call failed.
pub data Reason : Type 0 where
  TooLarge : Reason
  NoNumber : Reason
  NotStored : Reason

-- a chunk and an output that it matches: one pending delivery
pub record Route : Type 0 where
  pub chunk : ℕ
  pub output : ℕ

-- what happens to a route
pub data Outcome : Type 0 where
  -- a flush starts, with these events
  FlushStarted : (events : List Event) → Outcome
  -- the flush goes on, and has come so far
  InFlight : Progress → Outcome
  -- the flush failed and is retried after a wait, for which this random word was drawn
  Retries : (word : ℕ) → Outcome
  -- the output acknowledged it
  Delivered : Outcome
  -- the output rejected it for good
  Failed : Outcome
  -- the flush failed, and its retries are exhausted
  Exhausted : Outcome
  -- a size limit of the output evicted it
  Evicted : Outcome

pub data Fact : Type 0 where
  -- the loop returned this event, or the last tick brought Stop
  Happened : Happening → Fact
  -- reading of a followed file, by the index of its path in the input, resumes at an offset
  Resumed : (input index place : ℕ) → Fact
  -- the database of a followed file took this offset, from which a later run resumes
  Saved : (input index place : ℕ) → Fact
  -- a poll of a followed file found this length and read these bytes
  Polled : (input index length : ℕ) → (bytes : List ℕ) → Fact
  -- the engine dropped a connection
  Disconnected : (conn : ℕ) → Fact
  -- a peer of this input sent bytes that aren't a message
  Malformed : (input : ℕ) → Fact
  -- recovery found a chunk file: the number that the chunk gets, the file's folder and name, and its bytes
  Found : (number : ℕ) → (stream name bytes : List ℕ) → Fact
  -- a batch is about to be stored in a chunk, which is new if there is none with this number
  Offered : (chunk : ℕ) → Batch → Fact
  -- the batch is stored
  Accepted : Batch → Placement → Fact
  Refused : Batch → Reason → Fact
  -- a chunk closed
  ChunkClosed : (chunk : ℕ) → Fact
  -- links of an output took so many bytes more
  Sent : (output bytes : ℕ) → Fact
  OnRoute : Route → Outcome → Fact
  -- the outcome of a route is being marked in the chunk's file, and was marked
  MarkStarted : Route → Fact
  Marked : Route → Fact
  -- a chunk left the store: its file is removed, or couldn't be removed
  Removed : (chunk : ℕ) → Fact
  FileLeft : (chunk : ℕ) → Fact
  -- a call on the disk or on files failed
  IoFailed : Fact

-- the facts logged so far, the newest first
abbrev pub History : Type 0
History = List Fact
