-- What became of the batches that came in complete.
use Rattle.std.specs.Prelude.{◌≡◌, ◌⊎◌, ℕ, true, if◌then◌else◌, List, [], ◌∷◌, ◌++◌, map, Option, Some, None}
use Rattle.fwd_outside.specs.declared.happening.Happening.TheVariants as happening
use Rattle.fwd_in_tail.specs.Followed.{polled}
use Rattle.fwd_settings.specs.declared.settings_types.AllSettings.{AllSettings}
use Rattle.fwd_model.specs.Fact.{Fact, History, Stream, LineStream, MessageStream, Standard, Batch, Placement, Reason, Happened, Polled, Disconnected, Malformed, Accepted, Refused}
use Rattle.fwd_model.specs.Settings.{reads_stdin_at}
use Rattle.fwd_model.specs.Streams.{stream_of, said}
use Rattle.fwd_model.specs.Batches.{piece_batch, end_batch, poll_batch}
use Rattle.fwd_model.specs.Messages.{completed_messages, message_batch}
use Rattle.fwd_model.specs.Notes.{is_empty}

-- the batches that a read over a stream completes, in order
abbrev pub completed_over : AllSettings → History → ℕ → List ℕ → Option Stream → List Batch
completed_over s before input bytes None = []
completed_over s before input bytes (Some (LineStream conn)) =
    piece_batch s before input (LineStream conn) bytes ∷ []
completed_over s before input bytes (Some (MessageStream conn)) =
    map (message_batch s input) (completed_messages (said s before (MessageStream conn)) bytes)
completed_over s before input bytes (Some (Standard reader)) =
    piece_batch s before input (Standard reader) bytes ∷ []

-- the batches that a fact completes, given the history before it: the events that became complete there
-- and passed the filters
abbrev pub completed_by : AllSettings → History → Fact → List Batch
completed_by s before (Happened (happening.Piece input conn bytes)) =
    completed_over s before input.0 bytes (stream_of s before input.0 conn.0)
completed_by s before (Happened (happening.InputEnd input)) =
    if reads_stdin_at s input.0 then end_batch s before input.0 (Standard input.0) ∷ [] else []
completed_by s before (Polled input index length bytes) =
    poll_batch s before input index (polled length bytes) ∷ []
completed_by s before fact = []

-- the connection of a read
abbrev pub conn_of : Fact → Option ℕ
conn_of (Happened (happening.Piece input conn bytes)) = Some conn.0
conn_of fact = None

-- its connection was dropped before any further fact about its input
abbrev pub ConnectionDropped : Option ℕ → History → Type 0
ConnectionDropped None during = ⊥
ConnectionDropped (Some conn) [] = ⊥
ConnectionDropped (Some conn) (Disconnected other ∷ during) = other ≡ conn
ConnectionDropped (Some conn) (Malformed input ∷ during) = ⊥
ConnectionDropped (Some conn) (Accepted b place ∷ during) = ⊥
ConnectionDropped (Some conn) (Refused b why ∷ during) = ⊥
ConnectionDropped (Some conn) (fact ∷ during) = ConnectionDropped (Some conn) during

-- What became of a batch, by the facts logged after it, the oldest first: it has no events, it was
-- accepted, or it was refused and counted. `rest` are the facts after that.
pub data BatchOutcome (during : History) (b : Batch) (rest : History) : Type 0 where
  IsEmpty : is_empty b.events ≡ true → rest ≡ during → BatchOutcome during b rest
  IsAccepted : (before : History) (place : Placement) → during ≡ before ++ Accepted b place ∷ rest
      → BatchOutcome during b rest
  IsRefused : (before : History) (why : Reason) → during ≡ before ++ Refused b why ∷ rest
      → BatchOutcome during b rest

-- For batches in order, each by a fact of its own. What follows the drop of its connection is discarded.
abbrev pub BatchOutcomes : Option ℕ → History → List Batch → Type 0
BatchOutcomes conn during [] = Unit {0}
BatchOutcomes conn during (b ∷ bs) =
    (rest : History) × BatchOutcome during b rest × (BatchOutcomes conn rest bs ⊎ ConnectionDropped conn rest)

-- the facts after a fact, up to the next event or poll, the oldest first
abbrev pub until_next : Fact → History → History
until_next (Happened brought) during = []
until_next (Polled input index length bytes) during = []
until_next fact during = fact ∷ during

-- for each batch that was completed
abbrev pub AllBatchOutcomes : AllSettings → History → History → Type 0
AllBatchOutcomes s during [] = Unit {0}
AllBatchOutcomes s during (fact ∷ before) = BatchOutcomes (conn_of fact) during (completed_by s before fact)
    × AllBatchOutcomes s (until_next fact during) before
