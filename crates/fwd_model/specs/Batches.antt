-- From bytes to batches: the lines that a read completes, parsed into events and passed through the
-- filters.
use Rattle.std.specs.Prelude.{ℕ, List, [], ◌++◌, length, drop, map, Option, Some, None}
use Rattle.fwd_event.specs.declared.event.Event.{Event}
use Rattle.fwd_frames.specs.declared.line.Line.{Line}
use Rattle.fwd_frames.specs.Lines.{lines, last_line}
use Rattle.fwd_in_tail.specs.Followed.{Polled, completed}
use Rattle.fwd_parser.specs.LineEvent.{parsed}
use Rattle.fwd_filters.specs.FilterFunction.{filtered}
use Rattle.fwd_settings.specs.declared.settings_types.AllSettings.{AllSettings}
use Rattle.fwd_settings.specs.declared.settings_types.InputSet.{InputSet}
use Rattle.fwd_model.specs.Fact.{History, Stream, Batch}
use Rattle.fwd_model.specs.Settings.{input_at, tag_at}
use Rattle.fwd_model.specs.Clock.{clock}
use Rattle.fwd_model.specs.Streams.{said}
use Rattle.fwd_model.specs.FollowedFiles.{file_at}

-- the lines that a read completes, given the bytes before it
abbrev pub completed_lines : List ℕ → List ℕ → List Line
completed_lines before piece = drop (length (lines before)) (lines (before ++ piece))

-- the events of lines at this clock, as the input's parser reads them
abbrev pub events_of : Option InputSet → ℕ → List Line → List Event
events_of None now read = []
events_of (Some set) now read = map (λ (line : Line). parsed set.parser line.bytes now) read

-- the batch of lines of an input: their events, as the filters leave them
abbrev pub batch_of : AllSettings → History → ℕ → List Line → Batch
batch_of s h input read = record {
  input = input;
  tag = tag_at s input;
  events = filtered s.filters (tag_at s input) (events_of (input_at s input) (clock h) read);
}

-- the batch of a read on a stream
abbrev pub piece_batch : AllSettings → History → ℕ → Stream → List ℕ → Batch
piece_batch s h input stream piece = batch_of s h input (completed_lines (said s h stream) piece)

-- the batch of the unfinished line at the end of a stream
abbrev pub end_batch : AllSettings → History → ℕ → Stream → Batch
end_batch s h input stream = batch_of s h input (last_line (said s h stream))

-- the batch of a poll of a followed file
abbrev pub poll_batch : AllSettings → History → ℕ → ℕ → Polled → Batch
poll_batch s h input index poll = batch_of s h input (completed (file_at s h input index) poll)
