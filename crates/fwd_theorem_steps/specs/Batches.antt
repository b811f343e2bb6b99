-- What a batch is made of.
use Rattle.std.specs.Prelude.{◌≡◌, ℕ, List, [], map, Contains, Option, Some, None}
use Rattle.fwd_base.specs.declared.ids.ConnId.{ConnId}
use Rattle.fwd_base.specs.declared.ids.InputId.{InputId}
use Rattle.fwd_event.specs.declared.event.Event.{Event}
use Rattle.fwd_filters.specs.FilterFunction.{filtered}
use Rattle.fwd_frames.specs.Lines.{last_line}
use Rattle.fwd_frames.specs.declared.line.Line.{Line}
use Rattle.fwd_in_tail.specs.Followed.{completed, polled}
use Rattle.fwd_parser.specs.LineEvent.{parsed}
use Rattle.fwd_value.specs.Val.{Val}
use Rattle.fwd_wire.specs.Message.{nothing, batch}
use Rattle.fwd_outside.specs.declared.happening.Happening.TheVariants as happening
use Rattle.fwd_settings.specs.declared.settings_types.AllSettings.{AllSettings}
use Rattle.fwd_settings.specs.declared.settings_types.InputSet.{InputSet}
use Rattle.fwd_model.specs.Fact.{Fact, History, Stream, MessageStream, Standard, Batch, Happened, Polled}
use Rattle.fwd_model.specs.Settings.{input_at}
use Rattle.fwd_model.specs.Clock.{clock}
use Rattle.fwd_model.specs.Streams.{stream_of, said}
use Rattle.fwd_model.specs.FollowedFiles.{file_at}
use Rattle.fwd_model.specs.Batches.{completed_lines}
use Rattle.fwd_model.specs.Messages.{completed_messages}

-- a batch of lines that an input with these settings reads at this time
pub record IsOfLines (s : AllSettings) (input : ℕ) (set : InputSet) (now : ℕ) (read : List Line)
    (b : Batch) : Type 0 where
  pub from : b.input ≡ input
  pub tag : (own : List ℕ) → set.tag ≡ Some own → b.tag ≡ own
  pub events : b.events
      ≡ filtered s.filters b.tag (map (λ (line : Line). parsed set.parser line.bytes now) read)

-- a batch of a message that came with this tag and these events
pub record IsOfMessage (s : AllSettings) (input : ℕ) (set : InputSet) (sent_tag : List ℕ) (sent : List Event)
    (b : Batch) : Type 0 where
  pub from : b.input ≡ input
  pub own_tag : (own : List ℕ) → set.tag ≡ Some own → b.tag ≡ own
  pub its_tag : set.tag ≡ None → b.tag ≡ sent_tag
  pub events : b.events ≡ filtered s.filters b.tag sent

-- A fact completes a batch: of the lines or of a message that end in a read, of the last line of a standard
-- input, or of the lines that end in a poll. A message without events makes an empty batch.
pub data IsMade (s : AllSettings) (before : History) (fact : Fact) (b : Batch) : Type 0 where
  OfPiece : (input : InputId) (conn : ConnId) (bytes : List ℕ) (set : InputSet) (stream : Stream)
      → fact ≡ Happened (happening.Piece input conn bytes) → input_at s input.0 ≡ Some set
      → stream_of s before input.0 conn.0 ≡ Some stream
      → IsOfLines s input.0 set (clock before) (completed_lines (said s before stream) bytes) b
      → IsMade s before fact b
  OfMessage : (input : InputId) (conn : ConnId) (bytes : List ℕ) (set : InputSet) (tag : List ℕ)
      (events : List Event) (chunk : Option Val) → fact ≡ Happened (happening.Piece input conn bytes)
      → input_at s input.0 ≡ Some set
      → Contains (completed_messages (said s before (MessageStream conn.0)) bytes) (batch tag events chunk)
      → IsOfMessage s input.0 set tag events b → IsMade s before fact b
  OfEmptyMessage : (input : InputId) (conn : ConnId) (bytes : List ℕ)
      → fact ≡ Happened (happening.Piece input conn bytes)
      → Contains (completed_messages (said s before (MessageStream conn.0)) bytes) nothing → b.events ≡ []
      → IsMade s before fact b
  OfLastLine : (input : InputId) (set : InputSet) → fact ≡ Happened (happening.InputEnd input)
      → input_at s input.0 ≡ Some set
      → IsOfLines s input.0 set (clock before) (last_line (said s before (Standard input.0))) b
      → IsMade s before fact b
  OfPoll : (input index long : ℕ) (bytes : List ℕ) → fact ≡ Polled input index long bytes
      → ((set : InputSet) → input_at s input ≡ Some set
      → IsOfLines s input set (clock before) (completed (file_at s before input index) (polled long bytes)) b)
      → IsMade s before fact b
